-- The statutes of the library, as their words name them.
use Rattle.std.proofs.Common.{All, Bor, IfSome, arith, List, Option, [], get_or, length, map, nat_eq, refl, subst, sym, ◌<◌, ◌∷◌, ◌≡◌, ℕ, true, false}
use Rattle.std.proofs.Math.ListN.{get_or-map}
use Rattle.std.proofs.lemmas.List.{length-map}
use Rattle.std.proofs.lemmas.List.Elements.{All-map}
use Rattle.sl_count_inputs.specs.Judging.{tree_verdict}
use Rattle.sl_count_inputs.specs.Texts.{IsBookText}
use Rattle.sl_laws.specs.Books.{books as statutes}
use Rattle.sl_terminal_commands.specs.Comparisons.{compared_words, library_words}
use Rattle.sl_terminal_commands.specs.Sums.{IsVerdictOn}
use Rattle.sl_terminal_commands.specs.declared.sums.NamedBook.{NamedBook}
use Rattle.sl_terminal_commands.specs.inner.Comparing.{IsReadBook}
use Rattle.sl_terminal_commands.specs.inner.Statutes.{IsJudgedStatute}
use Rattle.sl_terminal_outside.specs.Inputs.{named_input}

abbrev pub IsStatuteWord : List ℕ → Type 0
IsStatuteWord word = (name : List ℕ) × (word ≡ 64 ∷ name)

each_names : All IsStatuteWord library_words
each_names = All-map IsStatuteWord (λ statute. 64 ∷ statute.0) statutes (λ k s lt. ((get_or statutes k s).0, refl))

-- what is judged by the words of the library is what these words name
pub statutes_on : (bytes : List ℕ → Option (List ℕ)) (books : List NamedBook) → map (λ (b : NamedBook). b.word.now) books ≡ library_words → All IsJudgedStatute books
    → All (IsReadBook bytes) books
statutes_on bytes books words judged = λ k d lt.
    let word = λ (b : NamedBook). b.word.now in
    let b = get_or books k d in
    let are : All IsStatuteWord (map word books) = subst (All IsStatuteWord) (sym words) each_names in
    let is : IsStatuteWord (word b) = subst IsStatuteWord (get_or-map word books k d) (are k (word d) (subst (λ n. k < n) (sym (length-map books word)) lt)) in
    let j = judged k d lt in
    record {
      own = j.own;
      verdict = subst (λ w. IsVerdictOn bytes w (tree_verdict b.read.verdict)) (sym is.1) (j.verdict is.0 is.1);
      text = subst (λ w. IfSome (named_input bytes w) (λ input. IsBookText input b.read.text.items)) (sym is.1) j.text;
    }

-- which words are compared
pub none_given : (books : List (Bor (List ℕ))) → nat_eq (length books) 0 ≡ true → library_words ≡ compared_words (map (λ (w : Bor (List ℕ)). w.now) books)
none_given [] none = refl
none_given (word ∷ words) none = grind (arith, none)

pub some_given : (books : List (Bor (List ℕ))) → nat_eq (length books) 0 ≡ false
    → map (λ (w : Bor (List ℕ)). w.now) books ≡ compared_words (map (λ (w : Bor (List ℕ)). w.now) books)
some_given [] some = absurd cc
some_given (word ∷ words) some = refl
