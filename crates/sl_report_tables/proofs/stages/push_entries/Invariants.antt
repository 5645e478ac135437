use Rattle.std.proofs.Common.{map, take, ◌≡◌}
use Rattle.sl_report_forms.specs.Tables.{table_of, with_rows}
use Rattle.sl_report_tables.specs.Stages.{cell_row}
use Rattle.sl_report_tables.proofs.stages.push_entries.Given as goal

abbrev pub invariant-loop-entry : goal.invariant-loop-entry
invariant-loop-entry l = table_of l.sheet ≡ with_rows (table_of l.initial.sheet) (map (cell_row l.returns l.stage l.column) (take l.entry-index l.entry-items))
