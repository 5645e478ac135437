use Rattle.std.proofs.Common.{◌≡◌, None, refl, rules}
use Rattle.sl_law_meaning.specs.book.Books.{book_of}
use Rattle.sl_law_meaning.specs.book.Typing.{check_fault}
use Rattle.sl_count_inputs.proofs.BookFacts.{has_tree}
use Rattle.sl_count_inputs.proofs.book.judge_text.Goals as goal

pub returns-in-Ok-check-clause-verdict : goal.returns-in-Ok-check-clause-verdict
returns-in-Ok-check-clause-verdict c =
    let typed : check_fault (book_of c.in-Ok-check.book.book) ≡ None = search rules in
    (has_tree _ _ c.in-Ok-parse.book c.in-Ok-check.book.book (search rules) (rw c.as_slice.ensures.value c.in-Ok.ensures.tokens) c.in-Ok-parse.ensures.found c.in-Ok-check.ensures.ok, typed)

pub returns-clause-verdict : goal.returns-clause-verdict
returns-clause-verdict c = (
  book_of c.in-Ok-parse.book,
  has_tree _ _ c.in-Ok-parse.book c.in-Ok-parse.book (search rules) (rw c.as_slice.ensures.value c.in-Ok.ensures.tokens) c.in-Ok-parse.ensures.found refl,
  c.in-Err-check.ensures.err.1,
)

pub returns-clause-holds : goal.returns-clause-holds
returns-clause-holds c =
    has_tree _ _ c.in-Ok-parse.book c.in-Err-check.book (search rules) (rw c.as_slice.ensures.value c.in-Ok.ensures.tokens) c.in-Ok-parse.ensures.found c.in-Err-check.ensures.err.0
