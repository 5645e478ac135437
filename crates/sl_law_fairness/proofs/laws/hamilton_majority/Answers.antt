use Rattle.sl_law_fairness.proofs.Preferred.{hamilton_majority}
use Rattle.sl_law_fairness.proofs.laws.hamilton_majority.Goals as goal

pub returns : goal.returns
returns c = hamilton_majority
