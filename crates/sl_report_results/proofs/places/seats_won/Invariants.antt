use Rattle.std.proofs.Common.{◌≡◌, ◌≤◌, ℕ, count_by, get_or, length, take}
use Rattle.sl_report_results.specs.inner.Tables.{seat_place}
use Rattle.sl_law_meaning.specs.laws.ColumnLaws.{size_of}
use Rattle.sl_report_results.proofs.Tabled.{is_at}
use Rattle.sl_report_results.proofs.places.seats_won.Given as goal

abbrev pub invariant-loop-step : goal.invariant-loop-step
invariant-loop-step l = record {
  long : length l.cells.items ≡ size_of l.returns l.votes;
  counted : (x : ℕ) → get_or l.cells.items x 0 ≡ count_by (λ s. is_at x (seat_place l.returns l.votes l.stage s)) (take l.step-index l.steps);
  few : (x : ℕ) → get_or l.cells.items x 0 ≤ l.step-index;
}
