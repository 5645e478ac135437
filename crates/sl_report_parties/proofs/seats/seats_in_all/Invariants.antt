use Rattle.std.proofs.Common.{◌≡◌, ◌+◌, take, count_by}
use Rattle.std.specs.Prelude.{sum_by}
use Rattle.sl_report_parties.specs.Sums.{capped}
use Rattle.sl_report_parties.specs.Seats.{is_single, is_seated}
use Rattle.sl_report_parties.proofs.seats.seats_in_all.Given as goal

abbrev pub invariant-loop-list : goal.invariant-loop-list
invariant-loop-list l = record {
  seats : l.seats.seats ≡ capped (sum_by (λ l. l.seats) (take l.list-index l.list-items));
  direct : l.seats.direct ≡ 0;
  vacant : l.seats.vacant ≡ capped (sum_by (λ l. l.vacant) (take l.list-index l.list-items));
}

abbrev pub invariant-loop-place : goal.invariant-loop-place
invariant-loop-place l = record {
  seats : l.seats.seats ≡ capped (sum_by (λ l. l.seats) l.table.lists + count_by is_single (take l.place-index l.place-items));
  direct : l.seats.direct ≡ capped (count_by is_seated (take l.place-index l.place-items));
  vacant : l.seats.vacant ≡ capped (sum_by (λ l. l.vacant) l.table.lists);
}
