-- What counting an election writes, and what it reads (docs/output.md).
use Rattle.std.specs.Prelude.{List, Option, Result, ◌≡◌, ◌⊎◌, ℕ}
use Rattle.sl_count_inputs.specs.Books.{BookInput, IsBookVerdict, book_line}
use Rattle.sl_count_inputs.specs.Reading.{ReadsBehind}
use Rattle.sl_count_inputs.specs.Returns.{IsReturnsVerdict, returns_line}
use Rattle.sl_count_inputs.specs.StageNames.{names_of}
use Rattle.sl_count_inputs.specs.declared.refusal.BookRefusal.{BookRefusal}
use Rattle.sl_count_inputs.specs.declared.refusal.ReturnsRefusal.{ReturnsRefusal}
use Rattle.sl_count_inputs.specs.declared.status.DeskError.{DeskError}
use Rattle.sl_count_inputs.specs.declared.status.Input.TheVariants as input
use Rattle.sl_count_inputs.specs.declared.status.Status.TheVariants as status
use Rattle.sl_count_inputs.specs.declared.status.Status.{Status}
use Rattle.sl_count_inputs.specs.declared.verdict.Verdict.TheVariants as verdict
use Rattle.sl_count_inputs.specs.declared.verdict.Verdict.TheVariants.{Good, Refused}
use Rattle.sl_count_inputs.specs.declared.verdict.Verdict.{Verdict}
use Rattle.sl_law_meaning.specs.book.Trees.{BookTree}
use Rattle.sl_law_meaning.specs.declared.fault.LegalFault.{LegalFault}
use Rattle.sl_law_meaning.specs.declared.table.Outcome.TheVariants as outcome
use Rattle.sl_law_meaning.specs.meaning.Means.{Means}
use Rattle.sl_law_meaning.specs.meaning.Tables.{SeatTable}
use Rattle.sl_law_meaning.specs.returns.Election.{Election}
use Rattle.sl_count_texts.specs.Faults.{fault_text}
use Rattle.sl_count_texts.specs.Short.{short_text}

-- the table's text
abbrev pub ShowsSeats : BookTree → Election → SeatTable → List ℕ → Type 0
ShowsSeats tree e t output = output ≡ short_text t e

-- the text of a legal fault that the book means on the returns
abbrev pub IsFaultText : BookTree → Election → List ℕ → Type 0
IsFaultText tree e output = (f : LegalFault) × Means tree e (outcome.Fault f) × (output ≡ fault_text (names_of tree) e f)

-- what is shown of a table to which a book comes on returns, a call each: how its text is related to them
module _ (Shows : BookTree → Election → SeatTable → List ℕ → Type 0) where
  -- the text that is shown of a table that the book means on the returns
  abbrev pub IsTableText : BookTree → Election → List ℕ → Type 0
  IsTableText tree e output = (t : SeatTable) × Means tree e (outcome.Table t) × Shows tree e t output

  -- a good book on judged returns
  abbrev pub IsTreeOutput : BookTree → Verdict Election ReturnsRefusal → Status → List ℕ → Type 0
  IsTreeOutput tree (Refused why) ends output = (ends ≡ status.Refused) × (output ≡ returns_line why)
  IsTreeOutput tree (Good e) ends output =
      ((ends ≡ status.Done) × IsTableText tree e output) ⊎ ((ends ≡ status.Legal) × IsFaultText tree e output)

  -- a judged book on the bytes of returns
  abbrev pub IsCount : Verdict BookTree BookRefusal → List ℕ → Status → List ℕ → Type 0
  IsCount (Refused why) returns ends output = (ends ≡ status.Refused) × (output ≡ book_line why)
  IsCount (Good tree) returns ends output =
      (verdict : Verdict Election ReturnsRefusal) × IsReturnsVerdict returns verdict × IsTreeOutput tree verdict ends output

  -- what counting writes: the book is judged, and then the returns
  abbrev pub IsOutput : BookInput → List ℕ → Status → List ℕ → Type 0
  IsOutput input returns ends output =
      (verdict : Verdict BookTree BookRefusal) × IsBookVerdict input verdict × IsCount verdict returns ends output

-- no tree makes the input a good book
abbrev pub IsNoGoodBook : BookInput → Type 0
IsNoGoodBook input = (tree : BookTree) → IsBookVerdict input (verdict.Good tree) → ⊥

-- first a book, and then returns
abbrev pub ReadsReturns : {R X : Type 0} → (R → Option (List ℕ)) → Option BookInput → R → R → Result X DeskError → Type 0
ReadsReturns remaining book old new result = ReadsBehind remaining input.Book book IsNoGoodBook old new result
