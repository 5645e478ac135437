use Rattle.sl_law_fairness.proofs.Winners.{keep_total}
use Rattle.sl_law_fairness.proofs.laws.books.keep_total.Goals as goal

pub returns : goal.returns
returns c = keep_total
