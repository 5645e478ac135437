-- What is left keeps the limits.
use Rattle.std.proofs.Common.{map}
use Rattle.sl_law_meaning.specs.book.Books.{book_of}
use Rattle.sl_law_meaning.specs.book.Trees.{stage_of}
use Rattle.sl_explain_books.proofs.LeftOut.{small_left, within_left}
use Rattle.sl_explain_books.proofs.left_out.without.Goals as goal

pub invariant_of-result-clause-within_limits : goal.invariant_of-result-clause-within_limits
invariant_of-result-clause-within_limits c =
    rw (c.in_ok-stages.ensures.left, c.as_slice.ensures.value) (within_left c.args.clause (map stage_of c.args.book.now.stages.items) c.args.book.now.within_limits)

pub invariant_of-result-clause-small_numbers : goal.invariant_of-result-clause-small_numbers
invariant_of-result-clause-small_numbers c =
    rw (c.version_left.ensures, c.house_left.ensures, c.in_ok-conditions_left.ensures, c.as_slice-4.ensures.value, c.in_ok-stages.ensures.left, c.as_slice.ensures.value)
    (small_left c.args.clause (book_of c.args.book.now) c.args.book.now.small_numbers)
