use Rattle.std.proofs.Common.{Some, ap, map, sym, ◌∙◌}
use Rattle.std.proofs.lemmas.Option.{slice_get-get_or}
use Rattle.sl_report_tables.specs.Scopes.{scope_row}
use Rattle.sl_report_tables.proofs.MoreRows.{rows_end, rows_next}
use Rattle.sl_report_tables.proofs.scopes.scopes_sheet.Goals as goal

pub loop-scoped-preserved : goal.loop-scoped-preserved
loop-scoped-preserved c =
    rows_next scope_row c.args.scopes.now c.loop-scoped.scoped-index c.scoped-item.result _ _ _
    (slice_get-get_or c.args.scopes.now c.loop-scoped.scoped-index c.scoped-item.result c.loop-scoped-test.true ∙ ap Some (sym c.scoped-item.is)) c.loop-scoped.invariant (rw c.in_ok-scope_row.ensures at c.in_ok-push.ensures)

pub returns : goal.returns
returns c = rows_end (map scope_row) c.args.scopes.now c.loop-scoped.scoped-index _ _ _ c.loop-scoped-test.false c.in_ok-sheet.ensures c.loop-scoped.invariant
