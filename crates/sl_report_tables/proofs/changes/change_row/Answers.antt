use Rattle.sl_report_tables.proofs.SeatedBooks.{cells_of_books}
use Rattle.sl_report_tables.specs.Compare.{change_or_fault, compared_name}
use Rattle.sl_report_tables.proofs.changes.change_row.Goals as goal

pub returns : goal.returns
returns c =
    cells_of_books (change_or_fault c.args.returns.now c.args.party c.args.first.now.judged.now.counted) c.args.others.now c.loop-book.book-index (compared_name c.args.party) _ c.loop-book-test.false
    c.loop-book.invariant
