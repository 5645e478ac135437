use Rattle.std.proofs.Common.{◌<◌, ◌≤◌, length, arith}
use Rattle.std.specs.Prelude.{min}
use Rattle.sl_law_meaning.specs.returns.Election.{parties_of}
use Rattle.sl_report_parties.proofs.SeatSums.{all_added, winner_added}
use Rattle.sl_report_parties.specs.inner.PartySeats.{capped_seats}
use Rattle.sl_report_parties.proofs.seats.seats_by_party.Goals as goal

pub loop-number-preserved : goal.loop-number-preserved
loop-number-preserved c =
    let places = c.placed-placed.result.now in
    let within : c.loop-number.number < length places = omega (arith, c.loop-number-test.true, c.min-number-end.ensures) in
    winner_added (parties_of c.args.returns.now) c.args.table.now.lists c.args.returns.now.wins places c.loop-number.number c.win-party.result _ _ _ _ c.win-party.ensures within
    c.seats_placed.ensures c.loop-number.invariant c.add_seats.ensures

pub returns : goal.returns
returns c =
    let places = c.placed-placed.result.now in
    let wins = c.args.returns.now.wins in
    let past : min (length wins) (length places) ≤ c.loop-number.number = omega (arith, c.loop-number-test.false, c.min-number-end.ensures, c.wins.ensures.number) in
    all_added (parties_of c.args.returns.now) c.args.table.now.lists wins c.args.table.now.placed c.loop-number.number places (capped_seats 0 0 0) c.loop-number.all.items
    c.placed-placed.ensures past c.loop-number.invariant
