use Rattle.std.proofs.Common.{arith, refl}
use Rattle.sl_law_meaning.specs.returns.Election.{IsWin, lands_of, parties_of}
use Rattle.sl_law_meaning.specs.returns.Facts.{is_in}
use Rattle.sl_report_parties.proofs.Steps.{all_at}
use Rattle.sl_report_parties.proofs.WinnerPlaces.{tally_end, tally_one}
use Rattle.sl_report_parties.proofs.winners.winners_of_lands.Goals as goal

pub loop-number-preserved : goal.loop-number-preserved
loop-number-preserved c =
    let e = c.args.returns.now in
    let i = c.loop-number.number in
    let win = c.win.result in
    let below = (all_at (IsWin (lands_of e) (parties_of e)) e.wins i win c.wins-number-end.ensures.kept.places c.win.ensures).land in
    tally_one is_in e.wins (lands_of e) i c.loop-number.winners.items c.loop-number.invariant win c.win.ensures _ win.land c.index_mut.result.now
    (λ n. refl) below c.index_mut.ensures.value refl

pub returns : goal.returns
returns c = tally_end is_in c.args.returns.now.wins (lands_of c.args.returns.now) c.loop-number.number c.loop-number.winners.items c.loop-number.invariant (omega (arith, c.loop-number-test.false, c.wins-number-end.ensures.number))
