use Rattle.sl_law_fairness.proofs.HamiltonPrinciples.{hamilton_homogeneous}
use Rattle.sl_law_fairness.proofs.laws.hamilton_homogeneous.Goals as goal

pub returns : goal.returns
returns c = hamilton_homogeneous
