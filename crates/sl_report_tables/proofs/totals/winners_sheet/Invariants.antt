use Rattle.std.proofs.Common.{◌≡◌}
use Rattle.std.specs.List.{flat_map, range_with_len}
use Rattle.sl_report_forms.specs.Tables.{table_of, with_rows}
use Rattle.sl_report_tables.specs.Totals.{won_rows}
use Rattle.sl_report_tables.proofs.totals.winners_sheet.Given as goal

abbrev pub invariant-loop-land : goal.invariant-loop-land
invariant-loop-land l = table_of l.sheet ≡ with_rows (table_of l.initial.sheet) (flat_map (won_rows l.counts.returns.now) (range_with_len 0 l.land))
