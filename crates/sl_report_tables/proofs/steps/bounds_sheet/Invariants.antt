use Rattle.std.proofs.Common.{take, ◌≡◌}
use Rattle.sl_report_forms.specs.Tables.{table_of}
use Rattle.sl_report_tables.specs.Steps.{bounds_table}
use Rattle.sl_report_tables.proofs.steps.bounds_sheet.Given as goal

abbrev pub invariant-loop-bounds : goal.invariant-loop-bounds
invariant-loop-bounds l = table_of l.sheet ≡ bounds_table (take l.bounds-index l.found)
