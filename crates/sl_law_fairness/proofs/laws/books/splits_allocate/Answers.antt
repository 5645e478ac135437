use Rattle.sl_law_fairness.proofs.Amounts.{splits_allocate}
use Rattle.sl_law_fairness.proofs.laws.books.splits_allocate.Goals as goal

pub returns : goal.returns
returns c = splits_allocate
