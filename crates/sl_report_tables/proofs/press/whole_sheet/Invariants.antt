use Rattle.std.proofs.Common.{filter, take, ◌≡◌}
use Rattle.sl_report_forms.specs.Tables.{table_of}
use Rattle.sl_report_tables.specs.Press.{is_whole}
use Rattle.sl_report_tables.specs.Scopes.{scopes_table}
use Rattle.sl_report_tables.proofs.press.whole_sheet.Given as goal

abbrev pub invariant-loop-scoped : goal.invariant-loop-scoped
invariant-loop-scoped l = table_of l.sheet ≡ scopes_table (filter is_whole (take l.scoped-index l.scopes))
