use Rattle.sl_law_margins.proofs.StayingEnough.{enough_stays_enough}
use Rattle.sl_law_margins.proofs.laws.enough_stays_enough.Goals as goal

pub returns : goal.returns
returns c = enough_stays_enough
