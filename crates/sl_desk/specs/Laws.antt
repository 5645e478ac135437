-- The laws of verdicts, and of what is written.
use Rattle.std.specs.Prelude.{◌≡◌, ◌↔◌, ℕ, true, List, All}
use Rattle.sl_code_instructions.specs.Codes.{CountingCode}
use Rattle.sl_code.specs.Laws.{IsByte}
use Rattle.sl_code_instructions.specs.Proper.{IsProper}
use Rattle.sl_code.specs.Spelling.{spelling_of}
use Rattle.sl_law_meaning.specs.book.Trees.{BookTree}
use Rattle.sl_law_meaning.specs.book.Typing.{is_typed}
use Rattle.sl_law_meaning.specs.laws.OneLaws.{ExactlyOne}
use Rattle.sl_code_semantics.specs.WellKinded.{IsWellKinded}
use Rattle.sl_count_code_files.specs.declared.refusal.CodeRefusal.{CodeRefusal}
use Rattle.sl_count_calls.specs.declared.report.Report.{Report}
use Rattle.sl_count_inputs.specs.declared.status.Status.{Status}
use Rattle.sl_count_inputs.specs.declared.verdict.Verdict.{Verdict}
use Rattle.sl_count_inputs.specs.declared.verdict.Verdict.TheVariants.{Good}
use Rattle.sl_count_inputs.specs.Books.{BookInput, IsTextVerdict}
use Rattle.sl_count_code_files.specs.CodeFiles.{IsCodeVerdict}
use Rattle.sl_count_inputs.specs.Returns.{IsReturnsVerdict}
use Rattle.sl_desk.specs.Checking.{IsCheckOutput}
use Rattle.sl_desk.specs.Compiling.{IsCodeOf}
use Rattle.sl_count_calls.specs.Counting.{IsCount, IsOutput}
use Rattle.sl_desk.specs.Running.{IsRun, IsRunCode}
use Rattle.sl_count_calls.specs.Showing.{IsStageOutput}
use Rattle.sl_count_calls.specs.Reports.{IsReported}
use Rattle.sl_count_calls.specs.Counting.{ShowsSeats}

-- each text of a book yields exactly one verdict
abbrev pub OneBookVerdict : Type 0
OneBookVerdict = (bytes : List ℕ) → ExactlyOne (IsTextVerdict bytes)

-- so do the bytes of returns
abbrev pub OneReturnsVerdict : Type 0
OneReturnsVerdict = (bytes : List ℕ) → ExactlyOne (IsReturnsVerdict bytes)

-- two outputs of counting the same inputs are one
abbrev pub HasOneOutput : Type 0
HasOneOutput = (report : Report) (input : BookInput) (returns : List ℕ) (a b : Status) (s t : List ℕ)
    → IsOutput (IsReported report) input returns a s → IsOutput (IsReported report) input returns b t → (a ≡ b) × (s ≡ t)

-- two outputs of showing the stage of a name are one
abbrev pub HasOneStage : Type 0
HasOneStage = (name : List ℕ) (input : BookInput) (returns : List ℕ) (a b : Status) (s t : List ℕ)
    → IsStageOutput name input returns a s → IsStageOutput name input returns b t → (a ≡ b) × (s ≡ t)

-- two outputs of checking the same book are one
abbrev pub HasOneCheck : Type 0
HasOneCheck = (input : BookInput) (a b : Status) (s t : List ℕ) → IsCheckOutput input a s → IsCheckOutput input b t → (a ≡ b) × (s ≡ t)

-- the bytes of a code file yield exactly one verdict
abbrev pub OneCodeVerdict : Type 0
OneCodeVerdict = (bytes : List ℕ) → All IsByte bytes → ExactlyOne (IsCodeVerdict bytes)

-- and numbers that are no bytes to at most one
abbrev pub NoOtherCodeVerdict : Type 0
NoOtherCodeVerdict = (numbers : List ℕ) (v w : Verdict CountingCode CodeRefusal) → IsCodeVerdict numbers v → IsCodeVerdict numbers w → v ≡ w

-- running the bytes of a code file has exactly one output
abbrev pub OneRun : Type 0
OneRun = (file returns : List ℕ) → All IsByte file → ExactlyOne (λ (o : Status × List ℕ). IsRunCode file returns o.0 o.1)

-- two outputs of running the same inputs are one
abbrev pub HasOneRun : Type 0
HasOneRun = (file returns : List ℕ) (a b : Status) (s t : List ℕ) → IsRunCode file returns a s → IsRunCode file returns b t → (a ≡ b) × (s ≡ t)

-- running the file of a well-kinded code writes how the run of that code ends, or the refusal of the returns
abbrev pub RunsItsCode : Type 0
RunsItsCode = (c : CountingCode) (returns : List ℕ) (ends : Status) (output : List ℕ) → IsProper c → IsWellKinded c
    → IsRunCode (spelling_of c) returns ends output ↔ IsRun (Good c) returns ends output

-- and where the code counts as a book means, it writes what counting by that book writes
abbrev pub RunIsCount : Type 0
RunIsCount = (tree : BookTree) (file text returns : List ℕ) (ends : Status) (output : List ℕ) → is_typed tree ≡ true → IsCodeOf tree file text
    → IsRunCode file returns ends output → IsCount ShowsSeats (Good tree) returns ends output
