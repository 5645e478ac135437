-- What is taken of returns after a rulebook (docs/output.md, section 3), and the bytes of both that are handed on.
use Rattle.std.specs.Prelude.{IfSome, List, None, Option, Result, [], ◌≡◌, ℕ}
use Rattle.sl_count_calls.specs.Judged.{unknown_in}
use Rattle.sl_count_calls.specs.declared.judged.Judged.TheVariants.{BookRefused, StageUnknown}
use Rattle.sl_count_calls.specs.declared.judged.Judged.{Judged}
use Rattle.sl_count_calls.specs.declared.reading.Read.{Read}
use Rattle.sl_count_inputs.specs.Books.{BookInput, IsBookVerdict}
use Rattle.sl_count_inputs.specs.Reading.{ReadsBehind}
use Rattle.sl_count_inputs.specs.Texts.{IsBookText, IsReadText}
use Rattle.sl_count_inputs.specs.declared.limits.TheConstants.{MAX_RETURNS_BYTES}
use Rattle.sl_count_inputs.specs.declared.status.DeskError.{DeskError}
use Rattle.sl_count_inputs.specs.declared.status.Input.TheVariants as input
use Rattle.sl_count_inputs.specs.declared.verdict.Verdict.TheVariants.{Good}
use Rattle.sl_law_meaning.specs.book.Trees.{BookTree}

-- no tree that has what is asked for makes the input a good book
abbrev pub IsNoGoodBook : Option (List ℕ) → BookInput → Type 0
IsNoGoodBook asked input = (tree : BookTree) → IsBookVerdict input (Good tree) → unknown_in asked tree ≡ None → ⊥

-- first a book, then the name of a stage, if one is asked for, and then returns
abbrev pub ReadsAfter : {R X : Type 0} → Option (List ℕ) → (R → Option (List ℕ)) → Option BookInput → R → R → Result X DeskError → Type 0
ReadsAfter asked remaining book old new result = ReadsBehind remaining input.Book book (IsNoGoodBook asked) old new result

-- the text of returns whose bytes may be known: none where they are not read
abbrev pub IsReturnsText : Judged → Option (List ℕ) → List ℕ → Type 0
IsReturnsText (BookRefused book) known text = text ≡ []
IsReturnsText (StageUnknown book name) known text = text ≡ []
IsReturnsText _ known text = IfSome known (λ bytes. IsReadText MAX_RETURNS_BYTES bytes text)

-- the texts of a rulebook and of returns that were read, where the bytes of each are known
pub record HasTexts (given : Option BookInput) (known : Option (List ℕ)) (read : Read) : Type 0 where
  pub book : IfSome given (λ input. IsBookText input read.book.items)
  pub returns : IsReturnsText read.judged known read.returns.items
