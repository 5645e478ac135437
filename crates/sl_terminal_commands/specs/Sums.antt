-- What rulebooks and returns come to that words name (docs/report.md).
use Rattle.std.specs.Option.{option_map}
use Rattle.std.specs.Prelude.{IfSome, List, None, Option, Some, ℕ}
use Rattle.sl_count_inputs.specs.Books.{BookInput, IsBookVerdict}
use Rattle.sl_count_inputs.specs.Judging.{tree_verdict}
use Rattle.sl_count_inputs.specs.Returns.{IsReturnsVerdict}
use Rattle.sl_count_inputs.specs.declared.refusal.BookRefusal.{BookRefusal}
use Rattle.sl_count_inputs.specs.declared.refusal.ReturnsRefusal.{ReturnsRefusal}
use Rattle.sl_count_inputs.specs.declared.refused_book.RefusedBook.{RefusedBook}
use Rattle.sl_count_inputs.specs.declared.verdict.Verdict.{Verdict}
use Rattle.sl_law_meaning.specs.book.Trees.{BookTree}
use Rattle.sl_law_meaning.specs.declared.checked.CheckedBook.{CheckedBook}
use Rattle.sl_law_meaning.specs.returns.Election.{Election}
use Rattle.sl_terminal_outside.specs.Inputs.{named_input}

-- what the rulebook that a word names comes to, where its bytes are known
abbrev pub IsVerdictOn : (List ℕ → Option (List ℕ)) → List ℕ → Verdict BookTree BookRefusal → Type 0
IsVerdictOn bytes word verdict = IfSome (named_input bytes word) (λ input. IsBookVerdict input verdict)

-- what returns come to, where their bytes are known
abbrev pub AreJudged : Option (List ℕ) → Verdict Election ReturnsRefusal → Type 0
AreJudged known verdict = IfSome known (λ bytes. IsReturnsVerdict bytes verdict)

-- ---- totals

-- the rulebook of a word, if one is given and its bytes are known
abbrev pub given_input : (List ℕ → Option (List ℕ)) → (word : Option (List ℕ)) → Option (Option BookInput)
given_input bytes None = Some None
given_input bytes (Some word) = option_map (λ input. Some input) (named_input bytes word)

-- what it comes to
abbrev pub IsGivenVerdict : (List ℕ → Option (List ℕ)) → (word : Option (List ℕ)) → Option (Verdict CheckedBook RefusedBook) → Type 0
IsGivenVerdict bytes None None = Unit {0}
IsGivenVerdict bytes (Some word) (Some verdict) = IsVerdictOn bytes word (tree_verdict verdict)
IsGivenVerdict bytes None (Some verdict) = ⊥
IsGivenVerdict bytes (Some word) None = ⊥
