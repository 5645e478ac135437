use Rattle.std.proofs.Common.{map, take, ◌≡◌}
use Rattle.sl_report_forms.specs.Tables.{table_of, with_rows}
use Rattle.sl_report_tables.specs.Scopes.{entry_row}
use Rattle.sl_report_tables.proofs.scopes.entries_sheet.Given as goal

abbrev pub invariant-loop-entry : goal.invariant-loop-entry
invariant-loop-entry l = table_of l.sheet ≡ with_rows (table_of l.initial.sheet) (map (entry_row l.scoped) (take l.entry-index l.entry-items))
