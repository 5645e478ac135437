use Rattle.std.proofs.Common.{List, ap, inl, subst, sym, ℕ}
use Rattle.sl_count_calls.proofs.CountTexts.{table_is}
use Rattle.sl_count_calls.proofs.texts.reported.Goals as goal
use Rattle.sl_count_calls.specs.Counting.{IsTableText}
use Rattle.sl_count_calls.specs.Reports.{IsReported}
use Rattle.sl_law_meaning.specs.book.Books.{book_of}

pub returns-in_ok-text-in-Counted-clause-output : goal.returns-in_ok-text-in-Counted-clause-output
returns-in_ok-text-in-Counted-clause-output c =
    let counting = c.args.counting.now in
    λ meant. inl (
      c.done.ensures.status,
      subst (λ (output : List ℕ). IsTableText (IsReported c.args.report) (book_of counting.book.book) counting.returns output) (sym (ap (λ v. v.items) c.done.ensures.text))
          (table_is (book_of counting.book.book) counting.returns counting.records counting.outcome.code c.requires.fits.names c.args.report c.in-Counted.counted
          c.in_ok-text-in-Counted.text.items c.requires.records (rw c.in-Counted.is at meant) (rw c.code-code.ensures.code at c.in_ok-text-in-Counted.ensures)),
    )
