use Rattle.std.proofs.Common.{arith}
use Rattle.std.proofs.lemmas.List.FromFn.{length-enumerate_from}
use Rattle.std.specs.List.{enumerate_from, zip}
use Rattle.sl_report_parties.proofs.ContestSteps.{numbered_at}
use Rattle.sl_report_parties.proofs.Steps.{zip_at}
use Rattle.sl_report_tables.specs.Parties.{has_place, winner_row}
use Rattle.sl_report_tables.proofs.MoreRows.{rows_kept, rows_of_pairs}
use Rattle.sl_report_tables.proofs.parties.placed_sheet.Goals as goal

pub loop-number-preserved : goal.loop-number-preserved
loop-number-preserved c =
    let wins = c.args.returns.now.wins in
    let placed = c.placed-placed.result.now in
    let number = c.loop-number.number in
    rows_kept (λ x. winner_row x.0) (λ x. has_place c.args.wanted x.1) (zip (enumerate_from 0 wins) placed) number ((number, c.win-win.result), c.place_at-place.result) _ _ _
    (zip_at (enumerate_from 0 wins) placed number (number, c.win-win.result) c.place_at-place.result (numbered_at wins number c.win-win.result c.win-win.ensures) c.place_at-place.ensures)
    c.loop-number.invariant c.in_ok-push_winner.ensures

pub returns : goal.returns
returns c =
    let wins = c.args.returns.now.wins in
    let placed = c.placed-placed.result.now in
    rows_of_pairs (λ x. winner_row x.0) (λ x. has_place c.args.wanted x.1) (enumerate_from 0 wins) placed c.args.table.now.placed c.loop-number.number _ _ _ c.placed-placed.ensures
    (omega (arith, c.loop-number-test.false, c.min-number-end.ensures, c.wins.ensures.number, length-enumerate_from 0 wins)) c.in_ok-sheet.ensures c.loop-number.invariant
