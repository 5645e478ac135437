use Rattle.std.proofs.Common.{◌&&◌, ◌≡◌, ◌<◌, arith, count_by, length, subst}
use Rattle.std.specs.List.{zip}
use Rattle.std.specs.Prelude.{is_none}
use Rattle.std.proofs.lemmas.Option.{slice_get-get_or}
use Rattle.std.proofs.lemmas.Slice.Zip.{length-zip}
use Rattle.sl_report_parties.specs.Seats.{is_single}
use Rattle.sl_report_parties.proofs.Steps.{at_end, count_next, one_if_le, zip_at}
use Rattle.sl_report_parties.proofs.seats.seats_without_party.Goals as goal

pub loop-number-preserved : goal.loop-number-preserved
loop-number-preserved c =
    let places = c.placed-placed.result.now in
    let wins = c.args.returns.now.wins in
    let within : c.loop-number.number < length places = omega (arith, c.loop-number-test.true, c.min-number-end.ensures) in
    let more = count_next (λ x. is_none x.0.party && is_single x.1) (zip wins places) c.loop-number.number _ c.is_alone.result
    (zip_at wins places c.loop-number.number c.win.result _ c.win.ensures (slice_get-get_or places c.loop-number.number _ within)) c.is_alone.ensures in
    record {
      seats = omega (arith, more, c.loop-number.invariant.seats, c.one_if-seats.ensures);
      few = omega (arith, one_if_le c.is_alone.result, c.loop-number.invariant.few, c.one_if-seats.ensures);
    }

pub returns : goal.returns
returns c =
    let places = c.placed-placed.result.now in
    let wins = c.args.returns.now.wins in
    subst (λ ps. c.loop-number.seats ≡ count_by (λ x. is_none x.0.party && is_single x.1) (zip wins ps)) c.placed-placed.ensures
    (at_end (count_by (λ x. is_none x.0.party && is_single x.1)) (zip wins places) c.loop-number.number _
    (omega (arith, length-zip wins places, c.loop-number-test.false, c.min-number-end.ensures, c.wins.ensures.number)) c.loop-number.invariant.seats)
