use Rattle.sl_law_fairness.proofs.ClosedHouse.{growth_bound}
use Rattle.sl_law_fairness.proofs.laws.growth_bound.Goals as goal

pub returns : goal.returns
returns c = growth_bound
