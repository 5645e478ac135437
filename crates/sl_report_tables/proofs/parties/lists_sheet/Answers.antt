use Rattle.std.proofs.Common.{ap, filter, map, ◌∙◌}
use Rattle.std.proofs.lemmas.Option.{slice_get-get_or}
use Rattle.sl_report_tables.specs.Parties.{is_shown_list, list_row, lists_table}
use Rattle.sl_report_tables.proofs.MoreRows.{rows_end, rows_kept}
use Rattle.sl_report_tables.proofs.parties.lists_sheet.Goals as goal

pub loop-list-preserved : goal.loop-list-preserved
loop-list-preserved c =
    let xs = c.lists-list-items.result.now in
    let n = c.loop-list.list-index in
    rows_kept (list_row c.args.returns.now) (is_shown_list c.args.any c.args.returns.now) xs n _ _ _ _ (slice_get-get_or xs n _ c.loop-list-test.true) c.loop-list.invariant c.in_ok-push_list.ensures

pub returns : goal.returns
returns c =
    let e = c.args.returns.now in
    let table = c.args.table.now in
    rows_end (λ xs. map (list_row e) (filter (is_shown_list c.args.any e) xs)) c.lists-list-items.result.now c.loop-list.list-index _ _ _
    c.loop-list-test.false c.in_ok-sheet.ensures c.loop-list.invariant
    ∙ ap (λ xs. record (lists_table c.args.any e table) { rows = map (list_row e) (filter (is_shown_list c.args.any e) xs) }) c.lists-list-items.ensures
