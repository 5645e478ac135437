use Rattle.sl_law_fairness.proofs.MethodOrder.{favours_larger}
use Rattle.sl_law_fairness.proofs.laws.favours_larger.Goals as goal

pub returns : goal.returns
returns c = favours_larger
