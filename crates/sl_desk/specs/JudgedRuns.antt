-- What a code file and returns come to (docs/desk.md, section 4).
use Rattle.std.specs.Prelude.{IfSome, List, Option, Some, [], length, ◌≡◌, ℕ}
use Rattle.sl_count_code_files.specs.CodeFiles.{IsCodeVerdict}
use Rattle.sl_desk.specs.Running.{IsRunCode}
use Rattle.sl_desk.specs.declared.calls.run.JudgedRun.TheVariants.{CodeRefused, Ran, ReturnsRefused}
use Rattle.sl_desk.specs.declared.calls.run.JudgedRun.{JudgedRun}
use Rattle.sl_desk.specs.declared.calls.run.ReadRun.{ReadRun}
use Rattle.sl_count_inputs.specs.Holding.{HoldsReturns}
use Rattle.sl_count_inputs.specs.Judging.{returns_refusal_of}
use Rattle.sl_count_inputs.specs.Returns.{IsReturnsVerdict}
use Rattle.sl_count_inputs.specs.Texts.{IsReadText}
use Rattle.sl_count_inputs.specs.declared.limits.TheConstants.{MAX_CODE_BYTES, MAX_RETURNS_BYTES}
use Rattle.sl_count_inputs.specs.declared.status.Status.{Status}
use Rattle.sl_count_inputs.specs.declared.verdict.Verdict.TheVariants.{Good, Refused}
use Rattle.sl_code_instructions.specs.Codes.{CountingCode}
use Rattle.sl_machine.specs.Answers.{answer_of}
use Rattle.sl_machine.specs.Fits.{Fits}
use Rattle.sl_machine.specs.declared.machine.Ending.TheVariants.{Done}
use Rattle.sl_machine.specs.declared.machine.Ending.{Ending as Answer}
use Rattle.sl_code_semantics.specs.Runs.{budget_of, ending}
use Rattle.sl_code_semantics.specs.Unrecorded.{without_records}
use Rattle.sl_law_meaning.specs.returns.Election.{Election}

-- the run of a good code on good returns, with the budget of its stages and without its records, ends so
abbrev pub RunsInto : CountingCode → Election → Answer → Type 0
RunsInto c e a = answer_of c e (without_records (ending c e (budget_of (length c.stages) e))) ≡ Some a

-- a good code: the returns are refused, with what was read of them until then, or it is run on them
abbrev pub IsJudgedOn : CountingCode → List ℕ → JudgedRun → Type 0
IsJudgedOn c returns (ReturnsRefused refused) = IsReturnsVerdict returns (Refused (returns_refusal_of refused)) × HoldsReturns returns refused
IsJudgedOn c returns (Ran run) = (run.code ≡ c) × IsReturnsVerdict returns (Good run.returns) × RunsInto c run.returns run.ending
IsJudgedOn c returns (CodeRefused why) = ⊥

-- the code file is refused; or it is good, and judged on the returns
abbrev pub IsJudged : List ℕ → List ℕ → JudgedRun → Type 0
IsJudged file returns (CodeRefused why) = IsCodeVerdict file (Refused why)
IsJudged file returns judged = (c : CountingCode) × IsCodeVerdict file (Good c) × IsJudgedOn c returns judged

-- the text of returns whose bytes may be known: none where they are not read
abbrev pub IsReturnsText : JudgedRun → Option (List ℕ) → List ℕ → Type 0
IsReturnsText (CodeRefused why) known text = text ≡ []
IsReturnsText _ known text = IfSome known (λ bytes. IsReadText MAX_RETURNS_BYTES bytes text)

-- the texts of a code file and of returns that were read, where the bytes of each are known
pub record HasRunTexts (code known : Option (List ℕ)) (read : ReadRun) : Type 0 where
  pub file : IfSome code (λ bytes. IsReadText MAX_CODE_BYTES bytes read.file.items)
  pub returns : IsReturnsText read.judged known read.returns.items

-- whatever inputs came to it, its ending fits its code and its returns
abbrev pub FitsJudged : JudgedRun → Type 0
FitsJudged (Ran run) = Fits run.code run.returns run.ending
FitsJudged _ = Unit {0}

-- whatever two inputs came to it, this is what running the one on the other writes
abbrev pub IsRunAnswer : JudgedRun → Status → List ℕ → Type 0
IsRunAnswer judged ends output = (file returns : List ℕ) → IsJudged file returns judged → IsRunCode file returns ends output

-- a run has a table
abbrev pub IsTableEnd : Answer → Type 0
IsTableEnd (Done held) = Unit {0}
IsTableEnd _ = ⊥

abbrev pub IsTable : JudgedRun → Type 0
IsTable (Ran run) = IsTableEnd run.ending
IsTable _ = ⊥
