use Rattle.std.proofs.Common.{ap, arith, sym, ◌∙◌}
use Rattle.std.proofs.lemmas.List.{get_or_default}
use Rattle.std.proofs.lemmas.List.Elements.{AllWithin-more}
use Rattle.sl_terminal_commands.specs.declared.sums.NamedBook.{NamedBook}
use Rattle.sl_terminal_commands.specs.inner.Comparing.{IsGood}
use Rattle.sl_terminal_commands.proofs.refused_books.first_refused.Goals as goal

pub loop-number-preserved : goal.loop-number-preserved
loop-number-preserved c =
    let books = c.args.books.now in
    let index = c.loop-number.number in
    AllWithin-more (λ (b : NamedBook). IsGood b.read.verdict) books 0 index c.loop-number.invariant
    (
    λ d. (
      c.in_default.field-0,
      ap (λ (b : NamedBook). b.read.verdict)
          (get_or_default books index d c.index-books-number.result c.loop-number-test.true ∙ sym c.index-books-number.is) ∙ c.in_default.is,
    )
    )

pub returns-clause-good : goal.returns-clause-good
returns-clause-good c none k d lt = c.loop-number.invariant k d (omega arith) (omega (arith, lt, c.loop-number-test.false))
