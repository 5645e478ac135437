use Rattle.std.proofs.Common.{All, Bor, List, [], ap, map, subst, sym, take, ◌++◌, ◌∙◌, ◌∷◌, ℕ}
use Rattle.std.proofs.lemmas.List.{map-append, map_more}
use Rattle.std.proofs.lemmas.List.Elements.{All-push}
use Rattle.sl_terminal_commands.specs.declared.sums.NamedBook.{NamedBook}
use Rattle.sl_terminal_commands.specs.inner.Comparing.{IsReadBook}
use Rattle.sl_terminal_commands.proofs.commands.Commands.books_at.Goals as goal

pub loop-word-preserved : goal.loop-word-preserved
loop-word-preserved g c =
    let bytes = g.O.Outside.bytes c.args.self.now.outside.now in
    let word = λ (b : NamedBook). b.word.now in
    let given = λ (w : Bor (List ℕ)). w.now in
    let items = c.in_ok-push.ensures.items in
    let old = c.loop-word.books.items in
    let book = c.in_ok-book.book in (
      ap (map word) items ∙ map-append word old (book ∷ []) ∙ ap (λ l. l ++ word book ∷ []) c.loop-word.invariant.0
          ∙ ap (λ w. map given (take c.loop-word.word-index c.args.words.now) ++ w ∷ []) c.in_ok-book.ensures.word
          ∙ sym (map_more given c.args.words.now c.loop-word.word-index record { ref_ptr = (0, 0); now = [] } c.loop-word-test.true),
      subst (All (IsReadBook bytes)) (sym items) (All-push (IsReadBook bytes) old book c.loop-word.invariant.1 c.in_ok-book.ensures.book),
    )
