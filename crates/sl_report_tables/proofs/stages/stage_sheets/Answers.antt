use Rattle.std.proofs.Common.{Some, ap, arith, map, subst, sym, ◌∙◌, ◌∷◌, []}
use Rattle.std.proofs.lemmas.List.FromFn.{length-enumerate_from}
use Rattle.std.proofs.lemmas.Option.{slice_get-get_or}
use Rattle.std.specs.List.{enumerate_from}
use Rattle.sl_report_forms.specs.Tables.{table_of}
use Rattle.sl_report_parties.proofs.ContestSteps.{numbered_at}
use Rattle.sl_report_tables.specs.Stages.{AreStageTables, IsStagesTable, cells_table}
use Rattle.sl_report_tables.proofs.MoreTables.{kind_added, tables_end, tables_next}
use Rattle.sl_report_tables.proofs.stages.stage_sheets.Goals as goal

pub loop-stage-init : goal.loop-stage-init
loop-stage-init c =
    kind_added _ _ (IsStagesTable c.as_slice-columns.result.now) (ap (map table_of) c.new-sheets.ensures.items) c.stages_sheet.ensures c.in_ok-add_sheet.ensures

pub loop-stage-preserved : goal.loop-stage-preserved
loop-stage-preserved c =
    let columns = c.as_slice-columns.result.now in
    let n = c.loop-stage.stage in
    let column = c.index-columns-stage.result in
    let so_far = c.loop-stage.invariant in
    let here = slice_get-get_or columns n column c.loop-stage-test.true ∙ ap Some (sym c.index-columns-stage.is) in (
      so_far.0,
      so_far.1,
      tables_next (cells_table c.args.setting.now.returns.now) (enumerate_from 0 columns) n (n, column) (so_far.0 ∷ []) _ _
          (numbered_at columns n column here) so_far.2 c.cells_sheet.ensures c.in_ok-add_sheet-2.ensures,
    )

pub returns : goal.returns
returns c =
    let e = c.args.setting.now.returns.now in
    let columns = c.as_slice-columns.result.now in
    let n = c.loop-stage.stage in
    let so_far = c.loop-stage.invariant in
    subst (λ columns. AreStageTables e columns (map table_of c.loop-stage.sheets.items)) c.as_slice-columns.ensures.value (
      so_far.0,
      so_far.1,
      tables_end (cells_table e) (enumerate_from 0 columns) n (so_far.0 ∷ []) _ (omega (arith, c.loop-stage-test.false, length-enumerate_from 0 columns)) so_far.2,
    )
