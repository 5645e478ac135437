use Rattle.sl_law_fairness.proofs.Covering.{cover_places}
use Rattle.sl_law_fairness.proofs.laws.books.cover_places.Goals as goal

pub returns : goal.returns
returns c = cover_places
