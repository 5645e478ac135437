use Rattle.std.proofs.Common.{ap, map, ◌∙◌}
use Rattle.std.proofs.lemmas.Option.{slice_get-get_or}
use Rattle.sl_report_tables.specs.Scopes.{entries_table, entry_row}
use Rattle.sl_report_tables.proofs.MoreRows.{rows_end, rows_next}
use Rattle.sl_report_tables.proofs.scopes.entries_sheet.Goals as goal

pub loop-entry-preserved : goal.loop-entry-preserved
loop-entry-preserved c =
    let entries = c.deref-entry-items.result.now in
    rows_next (entry_row c.args.scoped.now) entries c.loop-entry.entry-index _ _ _ _
    (slice_get-get_or entries c.loop-entry.entry-index _ c.loop-entry-test.true) c.loop-entry.invariant (rw c.in_ok-entry_row.ensures at c.in_ok-push.ensures)

pub returns : goal.returns
returns c =
    let s = c.args.scoped.now in
    rows_end (map (entry_row s)) c.deref-entry-items.result.now c.loop-entry.entry-index _ _ _ c.loop-entry-test.false c.in_ok-sheet.ensures c.loop-entry.invariant
    ∙ ap (λ entries. record (entries_table s) { rows = map (entry_row s) entries }) c.deref-entry-items.ensures.value
