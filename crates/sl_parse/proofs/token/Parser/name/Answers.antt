use Rattle.std.proofs.Common.{sym}
use Rattle.sl_parse.proofs.SameKind.{same-kind}
use Rattle.sl_parse.proofs.Names.{is_word_at}
use Rattle.sl_parse.proofs.token.Parser.name.Goals as goal

pub new-requires : goal.new-requires
new-requires c = is_word_at c.args.self.now.text.now c.args.self.now.tokens.now c.args.at c.in-Some.token _ c.args.self.now.spans c.in-Some.ensures.0 (same-kind _ _ (sym c.if-eq.ensures))
