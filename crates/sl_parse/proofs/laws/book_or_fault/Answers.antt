use Rattle.std.proofs.Common.{inl, inr, ⊎_elim}
use Rattle.sl_parse.specs.Parsing.{limits}
use Rattle.sl_parse.proofs.OneTree.{is_within}
use Rattle.sl_parse.proofs.Stands.{book_or_fault}
use Rattle.sl_parse.proofs.laws.book_or_fault.Goals as goal

pub returns : goal.returns
returns c = λ text tokens. ⊎_elim (λ h. inl (h.0, h.1.is, is_within _ h.1.within)) inr (book_or_fault text limits tokens)
