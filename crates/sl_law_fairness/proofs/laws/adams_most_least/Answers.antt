use Rattle.sl_law_fairness.proofs.Optimal.{adams_most_least}
use Rattle.sl_law_fairness.proofs.laws.adams_most_least.Goals as goal

pub returns : goal.returns
returns c = adams_most_least
