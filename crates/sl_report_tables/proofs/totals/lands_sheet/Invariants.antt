use Rattle.std.proofs.Common.{map, ◌≡◌}
use Rattle.std.specs.List.{range_with_len}
use Rattle.sl_report_forms.specs.Tables.{table_of, with_rows}
use Rattle.sl_report_tables.specs.Totals.{land_row}
use Rattle.sl_report_tables.proofs.totals.lands_sheet.Given as goal

abbrev pub invariant-loop-land : goal.invariant-loop-land
invariant-loop-land l = table_of l.sheet ≡ with_rows (table_of l.initial.sheet) (map (land_row l.counts.returns.now) (range_with_len 0 l.land))
