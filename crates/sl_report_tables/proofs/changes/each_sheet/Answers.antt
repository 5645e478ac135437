use Rattle.std.proofs.Common.{ap, map, ◌∙◌}
use Rattle.std.specs.List.{flat_map}
use Rattle.std.specs.Prelude.{List}
use Rattle.sl_report_forms.specs.Cells.{Content}
use Rattle.sl_report_forms.specs.Tables.{with_rows}
use Rattle.sl_report_tables.proofs.ComparedRows.{blank_seats, each_seats}
use Rattle.sl_report_tables.proofs.MoreRows.{rows_end}
use Rattle.sl_report_tables.proofs.SeatedBooks.{first_book, pieces_of_books}
use Rattle.sl_report_tables.specs.Compare.{compared, seats_row}
use Rattle.sl_report_tables.specs.declared.compare.Judged.{Judged}
use Rattle.sl_report_tables.proofs.changes.each_sheet.Goals as goal

pub returns : goal.returns
returns c =
    let e = c.args.returns.now in
    let books = c.args.books.now in
    let seated = c.args.seated.now in
    let first = c.in-Some.first.now in
    let rows : Judged → List (List Content) = λ j. map (seats_row e first.judged.now j) (compared e) in
    rows_end (flat_map (λ x. rows x.judged.now)) seated c.loop-book.book-index _ _ _ c.loop-book-test.false c.in_ok-sheet.ensures c.loop-book.invariant
    ∙ ap (with_rows blank_seats) (pieces_of_books rows seated ∙ ap (flat_map rows) c.requires.books)
    ∙ each_seats e first.judged.now books (first_book books seated first c.requires.books c.in-Some.ensures.item.3.0 c.in-Some.ensures.item.1)
