use Rattle.sl_law_fairness.proofs.ClosedHouse.{closed_house}
use Rattle.sl_law_fairness.proofs.laws.closed_house.Goals as goal

pub returns : goal.returns
returns c = closed_house
