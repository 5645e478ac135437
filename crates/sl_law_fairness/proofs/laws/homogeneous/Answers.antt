use Rattle.sl_law_fairness.proofs.Renamed.{homogeneous}
use Rattle.sl_law_fairness.proofs.laws.homogeneous.Goals as goal

pub returns : goal.returns
returns c = homogeneous
