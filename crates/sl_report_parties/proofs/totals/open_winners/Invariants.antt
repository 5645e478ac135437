use Rattle.std.proofs.Common.{◌≡◌, ◌≤◌, count_by, take}
use Rattle.sl_report_parties.specs.Seats.{is_open}
use Rattle.sl_report_parties.proofs.totals.open_winners.Given as goal

abbrev pub invariant-loop-place : goal.invariant-loop-place
invariant-loop-place l = record {
  winners : l.winners ≡ count_by is_open (take l.place-index l.place-items);
  few : l.winners ≤ l.place-index;
}
