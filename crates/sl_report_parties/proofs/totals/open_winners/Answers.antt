use Rattle.std.proofs.Common.{arith}
use Rattle.std.proofs.lemmas.Option.{slice_get-get_or}
use Rattle.sl_report_parties.specs.Seats.{is_open}
use Rattle.sl_report_parties.proofs.Steps.{count_next, one_if_le}
use Rattle.sl_report_parties.proofs.totals.open_winners.Goals as goal

pub loop-place-preserved : goal.loop-place-preserved
loop-place-preserved c =
    let places = c.placed-place-items.result.now in
    let more = count_next is_open places c.loop-place.place-index _ c.is_open.result (slice_get-get_or places c.loop-place.place-index _ c.loop-place-test.true) c.is_open.ensures in
    record {
      winners = omega (arith, more, c.loop-place.invariant.winners, c.one_if-winners.ensures);
      few = omega (arith, one_if_le c.is_open.result, c.loop-place.invariant.few, c.one_if-winners.ensures);
    }
