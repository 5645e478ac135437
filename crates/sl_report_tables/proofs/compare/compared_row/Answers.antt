use Rattle.sl_report_tables.proofs.SeatedBooks.{cells_of_books}
use Rattle.sl_report_tables.specs.Compare.{compared_cell, compared_name}
use Rattle.sl_report_tables.proofs.compare.compared_row.Goals as goal

pub returns : goal.returns
returns c = cells_of_books (compared_cell c.args.returns.now c.args.party) c.args.books.now c.loop-book.book-index (compared_name c.args.party) _ c.loop-book-test.false c.loop-book.invariant
