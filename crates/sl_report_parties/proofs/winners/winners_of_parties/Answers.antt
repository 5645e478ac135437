use Rattle.std.proofs.Common.{arith, ap, ◌∙◌, sym}
use Rattle.sl_law_meaning.specs.returns.Election.{IsWin, lands_of, parties_of}
use Rattle.sl_law_meaning.specs.returns.Facts.{is_of}
use Rattle.sl_report_parties.proofs.Steps.{all_at}
use Rattle.sl_report_parties.proofs.WinnerPlaces.{at_party, tally_end, tally_no, tally_one}
use Rattle.sl_report_parties.specs.inner.Winners.{is_at}
use Rattle.sl_report_parties.proofs.winners.winners_of_parties.Goals as goal
use Rattle.sl_report_parties.proofs.winners.winners_of_parties.Goals.{in-Some, in_default}

pub loop-number-preserved : goal.loop-number-preserved
loop-number-preserved c =
    let e = c.args.returns.now in
    let i = c.loop-number.number in
    let win = c.win.result in
    elim c.match-win.branch [
      | in-Some w ↦
          let below = (all_at (IsWin (lands_of e) (parties_of e)) e.wins i win c.wins-number-end.ensures.kept.places c.win.ensures).party w.in-Some.party w.in-Some.is in
          tally_one is_of e.wins (parties_of e) i c.loop-number.winners.items c.loop-number.invariant win c.win.ensures _ w.in-Some.party w.index_mut.result.now
          (λ n. ap (is_at n) (sym w.in-Some.is) ∙ at_party n win) below w.index_mut.ensures.value (ap (λ v. v.items) w.winners-is)
      | in_default w ↦
          tally_no is_of e.wins (parties_of e) i c.loop-number.winners.items c.loop-number.invariant win c.win.ensures _ (λ n. ap (is_at n) (sym w.in_default.is) ∙ at_party n win)
          (ap (λ v. v.items) w.winners-is)
    ]

pub returns : goal.returns
returns c = tally_end is_of c.args.returns.now.wins (parties_of c.args.returns.now) c.loop-number.number c.loop-number.winners.items c.loop-number.invariant (omega (arith, c.loop-number-test.false, c.wins-number-end.ensures.number))
