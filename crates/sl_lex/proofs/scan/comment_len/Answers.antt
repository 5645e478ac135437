use Rattle.std.proofs.Common.{◌∙◌}
use Rattle.sl_lex.proofs.FrontFacts.{line_end}
use Rattle.sl_lex.proofs.scan.comment_len.Goals as goal

pub returns : goal.returns
returns c = c.unwrap_or.ensures ∙ line_end _ _ c.memchr.ensures
