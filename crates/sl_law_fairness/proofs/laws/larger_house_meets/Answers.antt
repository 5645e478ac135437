use Rattle.sl_law_fairness.proofs.Upward.{larger_house_meets}
use Rattle.sl_law_fairness.proofs.laws.larger_house_meets.Goals as goal

pub returns : goal.returns
returns c = larger_house_meets
