-- Faults that are listed one after another.
use Rattle.std.proofs.Common.{List}
use Rattle.sl_law_meaning.specs.declared.check_fault.CheckFault.{CheckFault}
use Rattle.sl_law_meaning.specs.book.Trees.{BookTree}
use Rattle.sl_explain_books.specs.declared.further.Further.{Further}
use Rattle.sl_explain_books.specs.Further.{Leaves, Tells}

-- the faults of a rulebook so far are listed, and that much is left of it
pub record Going (b : BookTree) (r : Further) (left : BookTree) : Type 0 where
  pub faults : List CheckFault
  pub leaves : Leaves b faults left
  pub tells : Tells r faults
