-- The law is a lemma.
use Rattle.sl_returns_places.proofs.LocatedCells.{cells_hold_records}
use Rattle.sl_returns_places.proofs.laws.cells_hold_records.Goals as goal

pub returns : goal.returns
returns c = cells_hold_records
