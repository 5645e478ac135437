-- What running a code file writes, and what it reads (docs/output.md).
use Rattle.std.specs.Prelude.{List, Option, Result, length, ◌≡◌, ℕ}
use Rattle.sl_code_instructions.specs.Codes.{CountingCode}
use Rattle.sl_count_code_files.specs.CodeFiles.{IsCodeVerdict, code_line}
use Rattle.sl_desk.specs.Endings.{IsRunOutput}
use Rattle.sl_count_inputs.specs.Reading.{ReadsBehind}
use Rattle.sl_count_inputs.specs.Returns.{IsReturnsVerdict, returns_line}
use Rattle.sl_count_code_files.specs.declared.refusal.CodeRefusal.{CodeRefusal}
use Rattle.sl_count_inputs.specs.declared.refusal.ReturnsRefusal.{ReturnsRefusal}
use Rattle.sl_count_inputs.specs.declared.status.DeskError.{DeskError}
use Rattle.sl_count_inputs.specs.declared.status.Input.TheVariants as input
use Rattle.sl_count_inputs.specs.declared.status.Status.TheVariants as status
use Rattle.sl_count_inputs.specs.declared.status.Status.{Status}
use Rattle.sl_count_inputs.specs.declared.verdict.Verdict.TheVariants as verdict
use Rattle.sl_count_inputs.specs.declared.verdict.Verdict.TheVariants.{Good, Refused}
use Rattle.sl_count_inputs.specs.declared.verdict.Verdict.{Verdict}
use Rattle.sl_machine.specs.Answers.{answer_of}
use Rattle.sl_code_semantics.specs.Runs.{budget_of, ending}
use Rattle.sl_law_meaning.specs.returns.Election.{Election}

-- well-kinded code on judged returns: its run, with the budget of its stages
abbrev pub IsCodeOutput : CountingCode → Verdict Election ReturnsRefusal → Status → List ℕ → Type 0
IsCodeOutput c (Refused why) ends output = (ends ≡ status.Refused) × (output ≡ returns_line why)
IsCodeOutput c (Good e) ends output = IsRunOutput c e (answer_of c e (ending c e (budget_of (length c.stages) e))) ends output

-- a judged code file on the bytes of returns
abbrev pub IsRun : Verdict CountingCode CodeRefusal → List ℕ → Status → List ℕ → Type 0
IsRun (Refused why) returns ends output = (ends ≡ status.Refused) × (output ≡ code_line why)
IsRun (Good c) returns ends output =
    (verdict : Verdict Election ReturnsRefusal) × IsReturnsVerdict returns verdict × IsCodeOutput c verdict ends output

-- what running a code file writes: the code is judged, and then the returns
abbrev pub IsRunCode : List ℕ → List ℕ → Status → List ℕ → Type 0
IsRunCode file returns ends output = (verdict : Verdict CountingCode CodeRefusal) × IsCodeVerdict file verdict × IsRun verdict returns ends output

-- no code makes the bytes a good code file
abbrev pub IsNoGoodCode : List ℕ → Type 0
IsNoGoodCode bytes = (c : CountingCode) → IsCodeVerdict bytes (verdict.Good c) → ⊥

-- first a code file, and then returns
abbrev pub ReadsBehindCode : {R X : Type 0} → (R → Option (List ℕ)) → Option (List ℕ) → R → R → Result X DeskError → Type 0
ReadsBehindCode remaining file old new result = ReadsBehind remaining input.Code file IsNoGoodCode old new result
