use Rattle.sl_law_fairness.proofs.Larger.{larger_house}
use Rattle.sl_law_fairness.proofs.laws.larger_house.Goals as goal

pub returns : goal.returns
returns c = larger_house
