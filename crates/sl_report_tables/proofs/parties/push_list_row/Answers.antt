use Rattle.sl_report_tables.proofs.parties.push_list_row.Goals as goal

pub returns : goal.returns
returns c = rw c.in_ok-list_row.ensures at c.push.ensures
