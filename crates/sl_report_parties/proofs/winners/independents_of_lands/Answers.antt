use Rattle.std.proofs.Common.{◌&&◌, arith, ap, nat_eq, not, ◌∙◌, sym}
use Rattle.std.proofs.Math.Bool.{not-not}
use Rattle.sl_law_meaning.specs.returns.Election.{IsWin, lands_of, parties_of}
use Rattle.sl_report_parties.proofs.Steps.{all_at}
use Rattle.sl_report_parties.proofs.WinnerPlaces.{and_false, and_true, tally_end, tally_no, tally_one}
use Rattle.sl_report_parties.specs.Sums.{is_alone_in}
use Rattle.sl_report_parties.proofs.winners.independents_of_lands.Goals as goal
use Rattle.sl_report_parties.proofs.winners.independents_of_lands.Goals.{then-is_none, else-is_none}

pub loop-number-preserved : goal.loop-number-preserved
loop-number-preserved c =
    let e = c.args.returns.now in
    let i = c.loop-number.number in
    let win = c.win-win.result in
    let none = sym (not-not c.is_none.result) ∙ ap not (sym c.is_none.ensures) in
    elim c.if-is_none.branch [
      | then-is_none w ↦
          let below = (all_at (IsWin (lands_of e) (parties_of e)) e.wins i win c.wins-number-end.ensures.kept.places c.win-win.ensures).land in
          tally_one is_alone_in e.wins (lands_of e) i c.loop-number.winners.items c.loop-number.invariant win c.win-win.ensures _ win.land w.index_mut.result.now
          (λ n. sym (and_true (nat_eq win.land n)) ∙ ap (λ t. nat_eq win.land n && t) (sym w.if-is_none.true ∙ none)) below w.index_mut.ensures.value (ap (λ v. v.items) w.winners-is)
      | else-is_none w ↦
          tally_no is_alone_in e.wins (lands_of e) i c.loop-number.winners.items c.loop-number.invariant win c.win-win.ensures _
          (λ n. and_false (nat_eq win.land n) ∙ ap (λ t. nat_eq win.land n && t) (sym w.if-is_none.false ∙ none)) (ap (λ v. v.items) w.winners-is)
    ]

pub returns : goal.returns
returns c = tally_end is_alone_in c.args.returns.now.wins (lands_of c.args.returns.now) c.loop-number.number c.loop-number.winners.items c.loop-number.invariant (omega (arith, c.loop-number-test.false, c.wins-number-end.ensures.number))
