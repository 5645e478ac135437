-- The code file is judged before the returns are read.
use Rattle.std.proofs.Common.{◌≡◌, ℕ, ◌+◌, List, Option, Some, None, IfSome, IfOk, Result, Ok, Err, length, subst, sym}
use Rattle.sl_count_code_files.specs.CodeFiles.{IsCodeVerdict, code_line}
use Rattle.sl_count_code_files.specs.declared.refusal.CodeRefusal.{CodeRefusal}
use Rattle.sl_count_calls.proofs.Order.{reads_after}
use Rattle.sl_count_calls.specs.declared.answer.Answer.{Answer}
use Rattle.sl_desk.proofs.RunOutputs.{run_output}
use Rattle.sl_desk.specs.Endings.{IsEndingOutput}
use Rattle.sl_desk.specs.JudgedRuns.{HasRunTexts, IsJudged, IsJudgedOn, IsReturnsText, IsRunAnswer}
use Rattle.sl_desk.specs.Running.{IsNoGoodCode, IsRunCode, ReadsBehindCode}
use Rattle.sl_desk.specs.declared.calls.run.JudgedRun.TheVariants as judged
use Rattle.sl_desk.specs.declared.calls.run.JudgedRun.{JudgedRun}
use Rattle.sl_desk.specs.declared.calls.run.ReadRun.{ReadRun}
use Rattle.sl_desk.specs.declared.calls.run.Run.{Run}
use Rattle.sl_count_inputs.specs.Failures.{counts, counts_after}
use Rattle.sl_count_inputs.specs.Reading.{ForKnown, TakesAtMost}
use Rattle.sl_count_inputs.specs.Returns.{IsReturnsVerdict, returns_line}
use Rattle.sl_count_inputs.specs.Texts.{IsReadText}
use Rattle.sl_count_inputs.specs.declared.limits.TheConstants.{MAX_CODE_BYTES, MAX_RETURNS_BYTES}
use Rattle.sl_count_inputs.specs.declared.refusal.ReturnsRefusal.{ReturnsRefusal}
use Rattle.sl_count_inputs.specs.declared.status.DeskError.TheVariants as fault
use Rattle.sl_count_inputs.specs.declared.status.DeskError.{DeskError}
use Rattle.sl_count_inputs.specs.declared.status.Input.TheVariants.{Code, Returns}
use Rattle.sl_count_inputs.specs.declared.status.Input.{Input}
use Rattle.sl_count_inputs.specs.declared.status.Status.TheVariants as status
use Rattle.sl_count_inputs.specs.declared.status.Status.{Status}
use Rattle.sl_count_inputs.specs.declared.verdict.Verdict.TheVariants.{Good, Refused}
use Rattle.sl_code_instructions.specs.Codes.{CountingCode}
use Rattle.sl_code_semantics.specs.Runs.{budget_of, ending}

good_code : (known : Option (List ℕ)) (c : CountingCode) → IfSome known (λ bytes. IsCodeVerdict bytes (Good c)) → IfSome known (λ bytes. IsNoGoodCode bytes → ⊥)
good_code None c good = tt
good_code (Some bytes) c good = λ none. none c good

pub reads_after_code : {R X : Type 0} (remaining : R → Option (List ℕ)) (known : Option (List ℕ)) (c : CountingCode) (old new : R) (n n' : ℕ) (r : Result X DeskError)
    → IfSome known (λ bytes. IsCodeVerdict bytes (Good c)) → TakesAtMost (MAX_RETURNS_BYTES + 1) (remaining old) (remaining new)
    → counts 0 n' 0 0 ≡ counts_after (counts 0 n 0 0) r → ReadsBehindCode remaining known old new r
reads_after_code remaining known c old new n n' r good limited counted =
    reads_after remaining old new n n' r Code known IsNoGoodCode (λ e. cc) (good_code known c good) limited counted

-- what the bytes of both come to
pub judged_known : (c : CountingCode) (file returns : Option (List ℕ)) (r : Result ReadRun DeskError) → IfSome file (λ bytes. IsCodeVerdict bytes (Good c))
    → IfOk r (λ read. IfSome returns (λ bytes. IsJudgedOn c bytes read.judged)) → IfOk r (λ read. ForKnown file returns (λ file bytes. IsJudged file bytes read.judged))
judged_known c file returns (Err e) good on = tt
judged_known c None returns (Ok read) good on = tt
judged_known c (Some file) None (Ok read) good on = tt
judged_known c (Some file) (Some bytes) (Ok read) good on = go read.judged on
  where
    go : (j : JudgedRun) → IsJudgedOn c bytes j → IsJudged file bytes j
    go (judged.CodeRefused why) on = absurd on
    go (judged.ReturnsRefused why) on = (c, good, on)
    go (judged.Ran run) on = (c, good, on)

-- the texts of both
pub has_texts : {E : Type 0} (code returns : Option (List ℕ)) (file : List ℕ) (result : Result ReadRun E) → IfSome code (λ bytes. IsReadText MAX_CODE_BYTES bytes file)
    → IfOk result (λ read. read.file.items ≡ file) → IfOk result (λ read. IsReturnsText read.judged returns read.returns.items) → IfOk result (HasRunTexts code returns)
has_texts code returns file (Err e) of_code same of_returns = tt
has_texts code returns file (Ok read) of_code same of_returns = record {
  file = subst (λ (t : List ℕ). IfSome code (λ bytes. IsReadText MAX_CODE_BYTES bytes t)) (sym same) of_code;
  returns = of_returns;
}

-- ---- what is written

module _ (file returns : List ℕ) (ends : Status) (output : List ℕ) where
  pub refused_file : (why : CodeRefusal) → IsCodeVerdict file (Refused why) → ends ≡ status.Refused → output ≡ code_line why → IsRunCode file returns ends output
  refused_file why bad refused line = (Refused why, bad, (refused, line))

  pub refused_returns : (c : CountingCode) (why : ReturnsRefusal) → IsCodeVerdict file (Good c) → IsReturnsVerdict returns (Refused why)
      → ends ≡ status.Refused → output ≡ returns_line why → IsRunCode file returns ends output
  refused_returns c why good bad refused line = (Good c, good, (Refused why, bad, (refused, line)))

-- whatever two inputs came to a run
pub answers_run : {E : Type 0} (run : Run) (j : JudgedRun) (r : Result Answer E) → j ≡ judged.Ran run
    → IfOk r (λ a. IsEndingOutput run.code run.returns run.ending a.status a.text.items) → IfOk r (λ a. IsRunAnswer j a.status a.text.items)
answers_run run j (Err e) same written = tt
answers_run run j (Ok a) same written = λ file returns is. go file returns (subst (λ (k : JudgedRun). IsJudged file returns k) same is)
  where
    go : (file returns : List ℕ) → IsJudged file returns (judged.Ran run) → IsRunCode file returns a.status a.text.items
    go file returns is = (
      Good is.0,
      is.1,
      (
        Good run.returns,
        is.2.1,
        run_output is.0 run.returns (ending is.0 run.returns (budget_of (length is.0.stages) run.returns)) run.ending a.status a.text.items is.2.2
            (subst (λ (c : CountingCode). IsEndingOutput c run.returns run.ending a.status a.text.items) is.2.0 written),
      ),
    )

-- what is written of the value is written of the inputs that came to it
pub known_written : (j : JudgedRun) (file returns : Option (List ℕ)) (ends : Status) (text : List ℕ) → ForKnown file returns (λ file bytes. IsJudged file bytes j)
    → IsRunAnswer j ends text → ForKnown file returns (λ file bytes. IsRunCode file bytes ends text)
known_written j None returns ends text is written = tt
known_written j (Some file) None ends text is written = tt
known_written j (Some file) (Some bytes) ends text is written = written file bytes is

-- ---- what is read

more_some : {A : Type 0} (P Q : A → Type 0) (known : Option A) → ((a : A) → P a → Q a) → IfSome known P → IfSome known Q
more_some P Q None more h = tt
more_some P Q (Some a) more h = more a h

-- a later failure to write, or for lack of memory, changes nothing of what was read
pub reads_on : {R X Y : Type 0} (remaining : R → Option (List ℕ)) (file : Option (List ℕ)) (old new : R) (r : Result X DeskError) (s : Result Y DeskError)
    → ((i : Input) → s ≡ Err (fault.Read i) → r ≡ Err (fault.Read i)) → ReadsBehindCode remaining file old new r → ReadsBehindCode remaining file old new s
reads_on remaining file old new r s same h = record {
  limited = h.limited;
  untouched = h.untouched;
  unread = more_some _ _ file (λ i unread bad read. unread bad (same Returns read)) h.unread;
  second = λ e. h.second (same Code e);
}
