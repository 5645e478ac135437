use Rattle.std.proofs.Common.{map, take, ◌≡◌}
use Rattle.std.specs.List.{enumerate_from}
use Rattle.sl_report_forms.specs.Tables.{table_of, with_rows}
use Rattle.sl_report_tables.specs.Stages.{stage_row_by}
use Rattle.sl_report_tables.proofs.stages.stages_sheet.Given as goal

abbrev pub invariant-loop-number : goal.invariant-loop-number
invariant-loop-number l = table_of l.sheet ≡ with_rows (table_of l.initial.sheet) (map (stage_row_by l.types) (take l.number (enumerate_from 0 l.columns)))
