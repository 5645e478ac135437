use Rattle.std.proofs.Common.{map, take, ◌≡◌}
use Rattle.sl_report_forms.specs.Tables.{table_of, with_rows}
use Rattle.sl_report_tables.specs.Parties.{ranked_row}
use Rattle.sl_report_tables.proofs.covering.ranked_sheet.Given as goal

abbrev pub invariant-loop-winner : goal.invariant-loop-winner
invariant-loop-winner l = table_of l.sheet ≡ with_rows (table_of l.initial.sheet) (map ranked_row (take l.winner-index l.winners))
