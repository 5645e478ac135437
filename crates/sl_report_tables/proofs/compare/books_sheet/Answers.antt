use Rattle.std.proofs.Common.{Some, ap, refl, sym, ◌∙◌}
use Rattle.std.proofs.lemmas.Option.{slice_get-get_or}
use Rattle.sl_report_forms.specs.Cells.{content_of}
use Rattle.sl_report_forms.specs.Tables.{table_of}
use Rattle.sl_report_tables.specs.Compare.{IsBookRow}
use Rattle.sl_report_tables.proofs.GrowingTables.{grows_next}
use Rattle.sl_report_tables.proofs.compare.books_sheet.Goals as goal

pub loop-number-preserved : goal.loop-number-preserved
loop-number-preserved c =
    let e = c.args.returns.now in
    let books = c.args.books.now in
    let n = c.loop-number.number in
    let judged = c.index-books-number.result in
    grows_next (IsBookRow e) books n judged (table_of c.in_ok-sheet.sheet) (table_of c.loop-number.sheet) (table_of c.push.new.self)
    (slice_get-get_or books n judged c.loop-number-test.true ∙ ap Some (sym c.index-books-number.is)) c.loop-number.invariant
    (_, (content_of c.in_ok-difference.difference, refl), rw c.in_ok-book_row.ensures at c.in_ok-push.ensures)
