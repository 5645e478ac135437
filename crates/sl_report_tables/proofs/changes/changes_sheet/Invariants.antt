use Rattle.std.proofs.Common.{Some, map, ◌≡◌}
use Rattle.std.specs.List.{range_with_len}
use Rattle.sl_report_forms.specs.Tables.{table_of, with_rows}
use Rattle.sl_report_tables.specs.Compare.{change_row}
use Rattle.sl_report_tables.specs.inner.Seated.{books_of}
use Rattle.sl_report_tables.proofs.changes.changes_sheet.Given as goal

abbrev pub invariant-loop-party : goal.invariant-loop-party
invariant-loop-party l = table_of l.sheet ≡ with_rows (table_of l.initial.sheet) (map (λ n. change_row l.returns l.first.judged.now (books_of l.others) (Some n)) (range_with_len 0 l.party))
