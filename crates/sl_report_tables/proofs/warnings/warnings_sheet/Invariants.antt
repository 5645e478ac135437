use Rattle.std.proofs.Common.{take, ◌≡◌}
use Rattle.sl_report_forms.specs.Tables.{table_of}
use Rattle.sl_report_tables.specs.Totals.{warnings_table}
use Rattle.sl_report_tables.proofs.warnings.warnings_sheet.Given as goal

abbrev pub invariant-loop-warning : goal.invariant-loop-warning
invariant-loop-warning l = table_of l.sheet ≡ warnings_table (take l.warning-index l.warning-items)
