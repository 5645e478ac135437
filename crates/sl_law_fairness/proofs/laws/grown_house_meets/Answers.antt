use Rattle.sl_law_fairness.proofs.Growths.{grown_house_meets}
use Rattle.sl_law_fairness.proofs.laws.grown_house_meets.Goals as goal

pub returns : goal.returns
returns c = grown_house_meets
