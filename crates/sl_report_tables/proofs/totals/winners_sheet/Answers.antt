use Rattle.sl_report_tables.specs.Totals.{won_rows}
use Rattle.sl_report_tables.proofs.MoreRows.{rows_pieces}
use Rattle.sl_report_tables.proofs.totals.winners_sheet.Goals as goal

pub loop-land-preserved : goal.loop-land-preserved
loop-land-preserved c = rows_pieces (won_rows c.args.counts.now.returns.now) c.loop-land.land _ _ _ c.loop-land.invariant c.in_ok-push_winners.ensures
