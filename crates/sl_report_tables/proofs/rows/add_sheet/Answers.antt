use Rattle.sl_report_tables.proofs.rows.add_sheet.Goals as goal

pub returns : goal.returns
returns c = (_, c.in_ok-sheet.was, c.in_ok-push.ensures.items)
