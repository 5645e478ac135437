use Rattle.std.proofs.Common.{Some, ap, arith, map, sym, ◌∙◌}
use Rattle.std.proofs.lemmas.List.FromFn.{length-enumerate_from}
use Rattle.std.proofs.lemmas.Option.{slice_get-get_or}
use Rattle.std.specs.List.{enumerate_from}
use Rattle.sl_report_parties.proofs.ContestSteps.{numbered_at}
use Rattle.sl_report_tables.specs.Stages.{stage_row_by}
use Rattle.sl_report_tables.proofs.MoreRows.{rows_end, rows_next}
use Rattle.sl_report_tables.proofs.stages.stages_sheet.Goals as goal

pub loop-number-preserved : goal.loop-number-preserved
loop-number-preserved c =
    let columns = c.args.columns.now in
    let n = c.loop-number.number in
    let column = c.index-columns-number.result in
    rows_next (stage_row_by c.types_of-types.result) (enumerate_from 0 columns) n (n, column) _ _ _
    (numbered_at columns n column (slice_get-get_or columns n column c.loop-number-test.true ∙ ap Some (sym c.index-columns-number.is)))
    c.loop-number.invariant (rw (c.in_ok-stage_row.ensures, c.unit_at-unit.ensures) at c.in_ok-push.ensures)

pub returns : goal.returns
returns c =
    let columns = c.args.columns.now in
    let types = c.types_of-types.result in (
      types,
      rows_end (map (stage_row_by types)) (enumerate_from 0 columns) c.loop-number.number _ _ _ (omega (arith, c.loop-number-test.false, length-enumerate_from 0 columns)) c.in_ok-sheet.ensures c.loop-number.invariant,
    )
