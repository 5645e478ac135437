use Rattle.std.proofs.Common.{filter, map, take, ◌≡◌}
use Rattle.sl_report_forms.specs.Tables.{table_of, with_rows}
use Rattle.sl_report_tables.specs.Parties.{is_shown_list, list_row}
use Rattle.sl_report_tables.proofs.parties.lists_sheet.Given as goal

abbrev pub invariant-loop-list : goal.invariant-loop-list
invariant-loop-list l = table_of l.sheet ≡ with_rows (table_of l.initial.sheet) (map (list_row l.returns) (filter (is_shown_list l.any l.returns) (take l.list-index l.list-items)))
