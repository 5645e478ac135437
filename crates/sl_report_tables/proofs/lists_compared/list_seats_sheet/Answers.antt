use Rattle.sl_report_tables.specs.Compare.{list_seats_rows}
use Rattle.sl_report_tables.proofs.MoreRows.{rows_pieces}
use Rattle.sl_report_tables.proofs.lists_compared.list_seats_sheet.Goals as goal

pub loop-land-preserved : goal.loop-land-preserved
loop-land-preserved c =
    rows_pieces (list_seats_rows c.args.returns.now c.args.books.now) c.loop-land.land _ _ _ c.loop-land.invariant c.in_ok-push_lists.ensures
