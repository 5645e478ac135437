use Rattle.sl_law_fairness.proofs.Winners.{keep_seats_all}
use Rattle.sl_law_fairness.proofs.laws.books.keep_seats_all.Goals as goal

pub returns : goal.returns
returns c = keep_seats_all
