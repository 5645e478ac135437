use Rattle.std.proofs.Common.{◌&&◌, map, arith, ap, nat_eq, ◌∙◌, sym}
use Rattle.sl_law_meaning.specs.returns.Election.{IsWin, lands_of, parties_of}
use Rattle.sl_law_meaning.specs.returns.Facts.{lands}
use Rattle.sl_report_parties.proofs.Steps.{all_at}
use Rattle.sl_report_parties.proofs.WinnerPlaces.{and_false, and_true, counted_in, tally_end, tally_no, tally_one}
use Rattle.sl_report_parties.specs.inner.Winners.{counts_in}
use Rattle.sl_report_parties.proofs.facts.Setting.land_column.Goals as goal
use Rattle.sl_report_parties.proofs.facts.Setting.land_column.Goals.{then-counts, else-counts}

pub loop-number-preserved : goal.loop-number-preserved
loop-number-preserved c =
    let s = c.args.self.now in
    let e = s.returns.now in
    let i = c.loop-number.number in
    let win = c.win-win.result in
    let test = counts_in s.book.now.eligible.items e c.args.fact in
    elim c.if-counts.branch [
      | then-counts w ↦
          let below = (all_at (IsWin (lands_of e) (parties_of e)) e.wins i win c.wins-number-end.ensures.kept.places c.win-win.ensures).land in
          tally_one test e.wins (lands_of e) i c.loop-number.cells.items c.loop-number.invariant win c.win-win.ensures _ win.land w.index_mut.result.now
          (λ n. sym (and_true (nat_eq win.land n)) ∙ ap (λ t. nat_eq win.land n && t) (sym w.if-counts.true ∙ c.counts.ensures)) below w.index_mut.ensures.value (ap (λ v. v.items) w.cells-is)
      | else-counts w ↦
          tally_no test e.wins (lands_of e) i c.loop-number.cells.items c.loop-number.invariant win c.win-win.ensures _
          (λ n. and_false (nat_eq win.land n) ∙ ap (λ t. nat_eq win.land n && t) (sym w.if-counts.false ∙ c.counts.ensures)) (ap (λ v. v.items) w.cells-is)
    ]

pub returns : goal.returns
returns c =
    let s = c.args.self.now in
    let e = s.returns.now in
    let conditions = s.book.now.eligible.items in
    tally_end (counts_in conditions e c.args.fact) e.wins (lands_of e) c.loop-number.number c.loop-number.cells.items c.loop-number.invariant (omega (arith, c.loop-number-test.false, c.wins-number-end.ensures.number))
    ∙ ap (λ f. map f (lands e)) (λ i n. counted_in conditions e c.args.fact n i)
