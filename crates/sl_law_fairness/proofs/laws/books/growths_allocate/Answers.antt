use Rattle.sl_law_fairness.proofs.Amounts.{growths_allocate}
use Rattle.sl_law_fairness.proofs.laws.books.growths_allocate.Goals as goal

pub returns : goal.returns
returns c = growths_allocate
