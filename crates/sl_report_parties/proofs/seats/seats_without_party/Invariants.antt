use Rattle.std.proofs.Common.{◌&&◌, ◌≡◌, ◌≤◌, count_by, take}
use Rattle.std.specs.List.{zip}
use Rattle.std.specs.Prelude.{is_none}
use Rattle.sl_report_parties.specs.Seats.{is_single}
use Rattle.sl_report_parties.proofs.seats.seats_without_party.Given as goal

abbrev pub invariant-loop-number : goal.invariant-loop-number
invariant-loop-number l = record {
  seats : l.seats ≡ count_by (λ x. is_none x.0.party && is_single x.1) (take l.number (zip l.returns.wins l.placed));
  few : l.seats ≤ l.number;
}
