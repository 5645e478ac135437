use Rattle.std.proofs.Common.{All, [], ap, map, string_bytes, subst, sym, take, ◌++◌, ◌∙◌, ◌∷◌}
use Rattle.std.proofs.lemmas.List.{map-append, map_more}
use Rattle.std.proofs.lemmas.List.Elements.{All-push}
use Rattle.sl_terminal_commands.specs.inner.Statutes.{IsJudgedStatute}
use Rattle.sl_terminal_commands.specs.declared.sums.NamedBook.{NamedBook}
use Rattle.sl_terminal_commands.proofs.statutes.statutes_of.Goals as goal

pub loop-word-preserved : goal.loop-word-preserved
loop-word-preserved c =
    let word = λ (b : NamedBook). b.word.now in
    let items = c.in_ok-push.ensures.items in
    let old = c.loop-word.books.items in
    let book = c.in_ok-book.book in
    let words = c.args.words.now in
    let n = c.loop-word.word-index in
    let called = c.in_ok-book.ensures.word ∙ c.as_str.ensures.value ∙ ap string_bytes c.word-item.is in (
      ap (map word) items ∙ map-append word old (book ∷ []) ∙ ap (λ l. l ++ word book ∷ []) c.loop-word.invariant.0
          ∙ ap (λ w. map string_bytes (take n words) ++ w ∷ []) called ∙ sym (map_more string_bytes words n c.word-item.result c.loop-word-test.true),
      subst (All IsJudgedStatute) (sym items) (All-push IsJudgedStatute old book c.loop-word.invariant.1 c.in_ok-book.ensures.judged),
    )
