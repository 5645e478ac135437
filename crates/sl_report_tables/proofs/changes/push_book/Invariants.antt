use Rattle.std.proofs.Common.{Some, map, ◌≡◌}
use Rattle.std.specs.List.{range_with_len}
use Rattle.sl_report_forms.specs.Tables.{table_of, with_rows}
use Rattle.sl_report_tables.specs.Compare.{seats_row}
use Rattle.sl_report_tables.proofs.changes.push_book.Given as goal

abbrev pub invariant-loop-party : goal.invariant-loop-party
invariant-loop-party l = table_of l.sheet ≡ with_rows (table_of l.initial.sheet) (map (λ n. seats_row l.returns l.first.judged.now l.book.judged.now (Some n)) (range_with_len 0 l.party))
