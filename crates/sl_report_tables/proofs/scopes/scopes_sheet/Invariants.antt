use Rattle.std.proofs.Common.{map, take, ◌≡◌}
use Rattle.sl_report_forms.specs.Tables.{table_of, with_rows}
use Rattle.sl_report_tables.specs.Scopes.{scope_row}
use Rattle.sl_report_tables.proofs.scopes.scopes_sheet.Given as goal

abbrev pub invariant-loop-scoped : goal.invariant-loop-scoped
invariant-loop-scoped l = table_of l.sheet ≡ with_rows (table_of l.initial.sheet) (map (scope_row) (take l.scoped-index l.scopes))
