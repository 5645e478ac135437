use Rattle.std.proofs.Common.{map, take, ◌≡◌}
use Rattle.sl_report_forms.specs.Tables.{table_of}
use Rattle.sl_report_tables.specs.Steps.{step_row, steps_table}
use Rattle.sl_report_tables.proofs.steps.steps_sheet.Given as goal

abbrev pub invariant-loop-step : goal.invariant-loop-step
invariant-loop-step l = table_of l.sheet ≡ record (steps_table l.table) { rows = map (λ s. step_row s.now) (take l.step-index l.step-items) }
