use Rattle.sl_law_fairness.proofs.HamiltonLeast.{hamilton_least_deviation}
use Rattle.sl_law_fairness.proofs.laws.hamilton_least_deviation.Goals as goal

pub returns : goal.returns
returns c = hamilton_least_deviation
