use Rattle.std.proofs.Common.{take}
use Rattle.sl_report_forms.specs.Tables.{table_of}
use Rattle.sl_report_tables.specs.Compare.{IsBookRow}
use Rattle.sl_report_tables.proofs.GrowingTables.{Grows}
use Rattle.sl_report_tables.proofs.compare.books_sheet.Given as goal

abbrev pub invariant-loop-number : goal.invariant-loop-number
invariant-loop-number l = Grows (IsBookRow l.returns) (take l.number l.books) (table_of l.initial.sheet) (table_of l.sheet)
