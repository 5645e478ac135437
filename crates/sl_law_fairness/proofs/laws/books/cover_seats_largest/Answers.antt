use Rattle.sl_law_fairness.proofs.Largest.{cover_seats_largest}
use Rattle.sl_law_fairness.proofs.laws.books.cover_seats_largest.Goals as goal

pub returns : goal.returns
returns c = cover_seats_largest
