use Rattle.sl_law_fairness.proofs.Amounts.{splits_meet_the_minima}
use Rattle.sl_law_fairness.proofs.laws.books.splits_meet_the_minima.Goals as goal

pub returns : goal.returns
returns c = splits_meet_the_minima
