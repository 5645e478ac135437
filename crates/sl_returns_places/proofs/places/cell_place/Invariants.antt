-- The scan stands between two bytes of the text.
use Rattle.sl_returns_places.specs.inner.Scanning.{IsScanning}
use Rattle.sl_returns_places.proofs.places.cell_place.Given as goal

abbrev pub invariant-loop-at : goal.invariant-loop-at
invariant-loop-at l = IsScanning l.bytes l.row l.column l.scan l.at
