use Rattle.std.proofs.Common.{map, take, ◌++◌, ◌≡◌}
use Rattle.sl_report_forms.specs.Tables.{table_of}
use Rattle.sl_report_tables.specs.Scopes.{entries_table}
use Rattle.sl_report_tables.proofs.counted.push_scope_sheets.Given as goal

abbrev pub invariant-loop-scoped : goal.invariant-loop-scoped
invariant-loop-scoped l = map table_of l.sheets.items ≡ map table_of l.initial.sheets.items ++ map entries_table (take l.scoped-index l.scopes)
