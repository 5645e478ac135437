use Rattle.sl_count_inputs.specs.Books.{IsTextVerdict}
use Rattle.sl_count_inputs.specs.Holding.{HoldsBook, IfRefused}
use Rattle.sl_count_inputs.specs.Judging.{tree_verdict}
use Rattle.sl_count_inputs.specs.declared.limits.TheConstants.{MAX_BOOK_BYTES}
use Rattle.sl_count_inputs.proofs.Reading.{said_of_known, whole_text}
use Rattle.sl_count_inputs.proofs.book.read_text.Goals as goal

pub returns-in_ok-verdict-in-Whole-clause-verdict : goal.returns-in_ok-verdict-in-Whole-clause-verdict
returns-in_ok-verdict-in-Whole-clause-verdict g c =
    said_of_known (λ bytes. IsTextVerdict bytes (tree_verdict c.in_ok-verdict-in-Whole.verdict)) MAX_BOOK_BYTES (g.S.Source.remaining c.args.reader.now) c.in-Whole.text.items
    (rw c.in-Whole.is at c.in_ok-text.ensures.bytes) (rw c.as_slice.ensures.value at c.in_ok-verdict-in-Whole.ensures.verdict)

pub returns-in_ok-verdict-in-Whole-clause-holds : goal.returns-in_ok-verdict-in-Whole-clause-holds
returns-in_ok-verdict-in-Whole-clause-holds g c =
    said_of_known (λ bytes. IfRefused c.in_ok-verdict-in-Whole.verdict (HoldsBook bytes)) MAX_BOOK_BYTES (g.S.Source.remaining c.args.reader.now) c.in-Whole.text.items
    (rw c.in-Whole.is at c.in_ok-text.ensures.bytes) (rw c.as_slice.ensures.value at c.in_ok-verdict-in-Whole.ensures.holds)

pub returns-in_ok-verdict-in-Whole-clause-text : goal.returns-in_ok-verdict-in-Whole-clause-text
returns-in_ok-verdict-in-Whole-clause-text g c =
    whole_text MAX_BOOK_BYTES (g.S.Source.remaining c.args.reader.now) c.in-Whole.text.items (rw c.in-Whole.is at c.in_ok-text.ensures.bytes)
