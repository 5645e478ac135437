use Rattle.sl_law_fairness.proofs.Houses.{house_monotone}
use Rattle.sl_law_fairness.proofs.laws.house_monotone.Goals as goal

pub returns : goal.returns
returns c = house_monotone
