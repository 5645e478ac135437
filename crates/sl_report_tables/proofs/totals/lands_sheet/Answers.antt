use Rattle.sl_report_tables.specs.Totals.{land_row}
use Rattle.sl_report_tables.proofs.MoreRows.{rows_mapped}
use Rattle.sl_report_tables.proofs.totals.lands_sheet.Goals as goal

pub loop-land-preserved : goal.loop-land-preserved
loop-land-preserved c =
    rows_mapped (land_row c.args.counts.now.returns.now) c.loop-land.land _ _ _ c.loop-land.invariant (rw c.in_ok-land_row.ensures at c.in_ok-push.ensures)
