use Rattle.sl_law_fairness.proofs.Growths.{growth_stays}
use Rattle.sl_law_fairness.proofs.laws.growth_stays.Goals as goal

pub returns : goal.returns
returns c = growth_stays
