use Rattle.sl_law_fairness.proofs.Votes.{first_seats_by_lot}
use Rattle.sl_law_fairness.proofs.laws.first_seats_by_lot.Goals as goal

pub returns : goal.returns
returns c = first_seats_by_lot
