use Rattle.std.proofs.Common.{◌≡◌}
use Rattle.sl_lex.proofs.FrontFacts.{comment_front, begins_from_read}
use Rattle.sl_lex.proofs.scan.piece_at.Goals as goal

pub returns-in-Hash-clause-ok : goal.returns-in-Hash-clause-ok
returns-in-Hash-clause-ok c = comment_front _ _ (begins_from_read (λ b. b ≡ 35) _ c.requires c.in-Hash.ensures) c.comment_len.ensures
