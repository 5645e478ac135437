use Rattle.std.proofs.Common.{◌≡◌, ◌+◌, ◌∙◌, ap, arith, cond, count_by}
use Rattle.std.specs.Prelude.{sum_by}
use Rattle.sl_report_parties.specs.Sums.{capped}
use Rattle.sl_report_parties.specs.Seats.{is_single, is_seated}
use Rattle.sl_report_parties.specs.inner.PartySeats.{capped_seats}
use Rattle.sl_report_parties.proofs.SeatSums.{item_step, item_end}
use Rattle.sl_report_parties.proofs.seats.seats_in_all.Goals as goal

pub loop-list-preserved : goal.loop-list-preserved
loop-list-preserved c =
    let items = c.lists-list-items.result.now in
    let seats = item_step (λ l. l.seats) items c.loop-list.list-index _ 0 _ _ c.loop-list-test.true (omega (arith, c.loop-list.invariant.seats)) (ap (λ s. s.seats) c.and-seats.ensures) in
    let vacant = item_step (λ l. l.vacant) items c.loop-list.list-index _ 0 _ _ c.loop-list-test.true (omega (arith, c.loop-list.invariant.vacant)) (ap (λ s. s.vacant) c.and-seats.ensures) in
    record {
      seats = omega (arith, seats);
      direct = omega (arith, ap (λ s. s.direct) c.and-seats.ensures, c.loop-list.invariant.direct);
      vacant = omega (arith, vacant);
    }

pub loop-place-init : goal.loop-place-init
loop-place-init c =
    let items = c.lists-list-items.result.now in
    let seats = item_end (λ l. l.seats) items c.args.table.now.lists c.loop-list.list-index 0 c.loop-list.seats.seats c.lists-list-items.ensures c.loop-list-test.false (omega (arith, c.loop-list.invariant.seats)) in
    let vacant = item_end (λ l. l.vacant) items c.args.table.now.lists c.loop-list.list-index 0 c.loop-list.seats.vacant c.lists-list-items.ensures c.loop-list-test.false (omega (arith, c.loop-list.invariant.vacant)) in
    record { seats = omega (arith, seats); direct = c.loop-list.invariant.direct; vacant = omega (arith, vacant) }

pub loop-place-preserved : goal.loop-place-preserved
loop-place-preserved c =
    let items = c.placed-place-items.result.now in
    let before = c.loop-place.seats in
    let more = ap (λ m. capped_seats (before.seats + m.seats) (before.direct + m.direct) (before.vacant + m.vacant)) c.seats_placed-more.ensures in
    let grown = c.and-seats-in-loop-place.ensures ∙ more in
    let seats = item_step (λ p. cond (is_single p) 1 0) items c.loop-place.place-index _ (sum_by (λ l. l.seats) c.args.table.now.lists) _ _ c.loop-place-test.true c.loop-place.invariant.seats (ap (λ s. s.seats) grown) in
    let direct = item_step (λ p. cond (is_seated p) 1 0) items c.loop-place.place-index _ 0 _ _ c.loop-place-test.true (omega (arith, c.loop-place.invariant.direct)) (ap (λ s. s.direct) grown) in
    record {
      seats = seats;
      direct = omega (arith, direct);
      vacant = omega (arith, ap (λ s. s.vacant) grown, c.loop-place.invariant.vacant);
    }

pub returns : goal.returns
returns c =
    let items = c.placed-place-items.result.now in
    let seats = item_end (λ p. cond (is_single p) 1 0) items c.args.table.now.placed c.loop-place.place-index (sum_by (λ l. l.seats) c.args.table.now.lists) c.loop-place.seats.seats c.placed-place-items.ensures c.loop-place-test.false c.loop-place.invariant.seats in
    let direct = item_end (λ p. cond (is_seated p) 1 0) items c.args.table.now.placed c.loop-place.place-index 0 c.loop-place.seats.direct c.placed-place-items.ensures c.loop-place-test.false (omega (arith, c.loop-place.invariant.direct)) in
    let exact : c.loop-place.seats.direct ≡ capped (count_by is_seated c.args.table.now.placed) = omega (arith, direct) in
    λ i. record { seats = seats i; direct = exact i; vacant = c.loop-place.invariant.vacant i }
