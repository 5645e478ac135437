use Rattle.std.proofs.Common.{map, take, ◌∷◌, ◌≡◌}
use Rattle.std.specs.List.{enumerate_from}
use Rattle.sl_report_forms.specs.Tables.{Table, table_of}
use Rattle.sl_report_tables.specs.Stages.{IsStagesTable, cells_table}
use Rattle.sl_report_tables.proofs.stages.stage_sheets.Given as goal

abbrev pub invariant-loop-stage : goal.invariant-loop-stage
invariant-loop-stage l =
    (stages : Table) × IsStagesTable l.columns stages × (map table_of l.sheets.items ≡ stages ∷ map (cells_table l.returns) (take l.stage (enumerate_from 0 l.columns)))
