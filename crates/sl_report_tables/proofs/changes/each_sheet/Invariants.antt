use Rattle.std.proofs.Common.{map, take, ◌≡◌}
use Rattle.std.specs.List.{flat_map}
use Rattle.sl_report_forms.specs.Tables.{table_of, with_rows}
use Rattle.sl_report_tables.specs.Compare.{compared, seats_row}
use Rattle.sl_report_tables.proofs.changes.each_sheet.Given as goal

abbrev pub invariant-loop-book : goal.invariant-loop-book
invariant-loop-book l = table_of l.sheet ≡ with_rows (table_of l.initial.sheet) (flat_map (λ x. map (seats_row l.returns l.first.judged.now x.judged.now) (compared l.returns)) (take l.book-index l.seated))
