-- The faults so far are listed, and that much is left.
use Rattle.sl_explain_books.specs.Further.{without_fault}
use Rattle.sl_explain_books.proofs.Going.{Going}
use Rattle.sl_law_meaning.specs.book.Books.{book_of}
use Rattle.sl_explain_books.proofs.further.Further.of.Given as goal

abbrev pub invariant-loop : goal.invariant-loop
invariant-loop l = Going (without_fault l.fn.fault (book_of l.fn.written.book.now)) l.further (book_of l.left)
