-- What showing the column of a stage writes, and what it reads (docs/output.md).
use Rattle.std.specs.Prelude.{List, None, Option, Result, Some, codes, slice_get, ◌∷◌, ◌≡◌, ℕ, []}
use Rattle.sl_count_inputs.specs.Books.{BookInput, IsBookVerdict, book_line}
use Rattle.sl_count_calls.specs.Counting.{IsCount}
use Rattle.sl_count_inputs.specs.Reading.{ReadsBehind}
use Rattle.sl_count_inputs.specs.Refusals.{refused}
use Rattle.sl_count_inputs.specs.StageNames.{stage_number}
use Rattle.sl_count_inputs.specs.declared.refusal.BookRefusal.{BookRefusal}
use Rattle.sl_count_inputs.specs.declared.status.DeskError.{DeskError}
use Rattle.sl_count_inputs.specs.declared.status.Input.TheVariants as input
use Rattle.sl_count_inputs.specs.declared.status.Status.TheVariants as status
use Rattle.sl_count_inputs.specs.declared.status.Status.{Status}
use Rattle.sl_count_inputs.specs.declared.verdict.Verdict.TheVariants as verdict
use Rattle.sl_count_inputs.specs.declared.verdict.Verdict.TheVariants.{Good, Refused}
use Rattle.sl_count_inputs.specs.declared.verdict.Verdict.{Verdict}
use Rattle.sl_law_meaning.specs.book.Trees.{BookTree}
use Rattle.sl_law_meaning.specs.book.Typing.{Column}
use Rattle.sl_law_meaning.specs.meaning.Columns.{NamedColumn}
use Rattle.sl_law_meaning.specs.meaning.Means.{Known, StagesMean, Through, nothing_known}
use Rattle.sl_law_meaning.specs.meaning.Tables.{SeatTable}
use Rattle.sl_law_meaning.specs.returns.Election.{Election}
use Rattle.sl_table.specs.Stages.{stage_text}

-- the text of the column that a stage has, by its number, after all stages of a book
pub record IsColumnText (tree : BookTree) (e : Election) (n : ℕ) (output : List ℕ) : Type 0 where
  pub known : Known
  pub means : StagesMean tree e nothing_known tree.stages (Through known)
  pub type : Column
  pub column : NamedColumn
  pub typed : slice_get known.types n ≡ Some type
  pub there : slice_get known.columns n ≡ Some column
  pub text : output ≡ stage_text e type.type.shape column.values

abbrev pub ShowsColumn : ℕ → BookTree → Election → SeatTable → List ℕ → Type 0
ShowsColumn n tree e t output = IsColumnText tree e n output

-- the line of a name that no stage of the book has
abbrev pub unknown_stage : List ℕ → List ℕ
unknown_stage name = refused (codes "stage" ∷ name ∷ [])

-- a good book of which the stage of that number is asked for: a name without one is refused
abbrev pub IsNumbered : List ℕ → BookTree → Option ℕ → List ℕ → Status → List ℕ → Type 0
IsNumbered name tree None returns ends output = (ends ≡ status.Refused) × (output ≡ unknown_stage name)
IsNumbered name tree (Some n) returns ends output = IsCount (ShowsColumn n) (Good tree) returns ends output

-- a judged book of which the stage of that name is asked for
abbrev pub IsStage : List ℕ → Verdict BookTree BookRefusal → List ℕ → Status → List ℕ → Type 0
IsStage name (Refused why) returns ends output = (ends ≡ status.Refused) × (output ≡ book_line why)
IsStage name (Good tree) returns ends output = IsNumbered name tree (stage_number name tree) returns ends output

-- what showing a stage writes: the book is judged, then the name of the stage, and then the returns
abbrev pub IsStageOutput : List ℕ → BookInput → List ℕ → Status → List ℕ → Type 0
IsStageOutput name input returns ends output =
    (verdict : Verdict BookTree BookRefusal) × IsBookVerdict input verdict × IsStage name verdict returns ends output

-- no tree that has a stage of that name makes the input a good book
abbrev pub IsNoBookWith : List ℕ → BookInput → Type 0
IsNoBookWith name input = (tree : BookTree) (n : ℕ) → IsBookVerdict input (verdict.Good tree) → stage_number name tree ≡ Some n → ⊥

-- first a book, then the name of a stage, and then returns
abbrev pub ReadsBehindStage : {R X : Type 0} → List ℕ → (R → Option (List ℕ)) → Option BookInput → R → R → Result X DeskError → Type 0
ReadsBehindStage name remaining book old new result = ReadsBehind remaining input.Book book (IsNoBookWith name) old new result
