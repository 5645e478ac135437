use Rattle.std.proofs.Common.{◌≡◌, length, take}
use Rattle.sl_report_results.specs.inner.Tables.{AreFirst}
use Rattle.sl_report_results.proofs.drawing.first_places.Given as goal

abbrev pub invariant-loop-place : goal.invariant-loop-place
invariant-loop-place l = record {
  long : length l.places.items ≡ l.end;
  first : AreFirst (take l.place l.numbers) l.end l.places.items;
}
