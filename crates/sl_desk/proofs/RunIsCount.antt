-- What running the file of a code writes is how the run of the code ends, and of a book's code what counting by the book writes.
use Rattle.std.proofs.Common.{◌≡◌, ◌≢◌, ℕ, true, List, length, Option, None, Some, inl, inr, refl, sym, ap, subst, ◌∙◌}
use Rattle.sl_law_meaning.specs.book.Trees.{BookTree}
use Rattle.sl_law_meaning.specs.book.Typing.{is_typed}
use Rattle.sl_law_meaning.specs.returns.Election.{Election, IsElection}
use Rattle.sl_code_instructions.specs.Codes.{CountingCode}
use Rattle.sl_code.specs.Spelling.{spelling_of}
use Rattle.sl_machine.specs.declared.machine.Ending.{Ending as Answer}
use Rattle.sl_machine.specs.declared.machine.Ending.TheVariants as answer
use Rattle.sl_machine.specs.Answers.{answer_of}
use Rattle.sl_code_semantics.specs.Laws.{NeverStuck}
use Rattle.sl_code_semantics.specs.Memories.{held_of}
use Rattle.sl_code_semantics.specs.Runs.{Ending, Ended, OutOfBudget, Stuck, budget_of, ending}
use Rattle.sl_code_semantics.specs.State.{End, Halted, Faulted}
use Rattle.sl_code_semantics.specs.Tables.{held_table}
use Rattle.sl_compile.specs.Compiled.{IsCompiled, ending_by}
use Rattle.sl_compile.proofs.rulebooks.StageColumns.{code_stages_long}
use Rattle.sl_returns.specs.Returns.{records_in}
use Rattle.sl_returns.proofs.ReadElections.{read_is}
use Rattle.sl_count_code_files.specs.declared.refusal.CodeRefusal.{CodeRefusal}
use Rattle.sl_count_inputs.specs.declared.refusal.ReturnsRefusal.{ReturnsRefusal}
use Rattle.sl_count_inputs.specs.declared.status.Status.{Status}
use Rattle.sl_count_inputs.specs.declared.status.Status.TheVariants as status
use Rattle.sl_count_inputs.specs.declared.verdict.Verdict.{Verdict}
use Rattle.sl_count_inputs.specs.declared.verdict.Verdict.TheVariants.{Good, Refused}
use Rattle.sl_count_calls.proofs.Ends.{fault_is_meant, table_is_meant}
use Rattle.sl_count_calls.specs.Outcomes.{code_names}
use Rattle.sl_law_meaning.specs.declared.count.Records.TheVariants.{Kept}
use Rattle.sl_desk.specs.Endings.{IsRunOutput, out_of_budget}
use Rattle.sl_desk.specs.Laws.{OneCodeVerdict, NoOtherCodeVerdict, OneRun, HasOneRun, RunsItsCode, RunIsCount}
use Rattle.sl_count_calls.specs.Counting.{IsTreeOutput, IsCount}
use Rattle.sl_count_code_files.specs.CodeFiles.{IsCodeVerdict, code_line}
use Rattle.sl_desk.specs.Running.{IsCodeOutput, IsRun, IsRunCode}
use Rattle.sl_count_texts.specs.Faults.{fault_text}
use Rattle.sl_count_texts.specs.Short.{short_text}
use Rattle.sl_code_semantics.specs.WellKinded.{IsWellKinded}
use Rattle.sl_count_inputs.specs.Returns.{IsReturnsVerdict, returns_line}
use Rattle.sl_desk.proofs.CodeLengths.{file_fits}
use Rattle.sl_desk.proofs.OneOutput.{one_returns_verdict}
use Rattle.sl_desk.proofs.OneVerdict.{one_returns}
use Rattle.sl_law_meaning.proofs.meaning.MeaningProofs.{some_outcome}
use Rattle.sl_count_calls.specs.Counting.{ShowsSeats}

module _ (no_other : NoOtherCodeVerdict) where
  pub runs_its_code : RunsItsCode
  runs_its_code c returns ends output proper kinded = (
    (λ h. subst (λ (v : Verdict CountingCode CodeRefusal). IsRun v returns ends output)
        (no_other (spelling_of c) h.0 (Good c) h.1 (file_fits c proper, (refl, proper), kinded)) h.2),
    (λ h. (Good c, (file_fits c proper, (refl, proper), kinded), h)),
  )

  -- ---- one output

  one_run_output : (c : CountingCode) (v : Verdict Election ReturnsRefusal) (a b : Status) (s t : List ℕ) → IsCodeOutput c v a s → IsCodeOutput c v b t → (a ≡ b) × (s ≡ t)
  one_run_output c (Refused why) a b s t h k = (h.0 ∙ sym k.0, h.1 ∙ sym k.1)
  one_run_output c (Good e) a b s t h k = go (answer_of c e (ending c e (budget_of (length c.stages) e))) h k
    where
      go : (o : Option Answer) → IsRunOutput c e o a s → IsRunOutput c e o b t → (a ≡ b) × (s ≡ t)
      go (Some (answer.Done held)) h k = (h.0 ∙ sym k.0, h.1 ∙ sym k.1)
      go (Some (answer.Fault f)) h k = (h.0 ∙ sym k.0, h.1 ∙ sym k.1)
      go (Some answer.OutOfBudget) h k = (h.0 ∙ sym k.0, h.1 ∙ sym k.1)
      go None h k = absurd h

  one_run : (v : Verdict CountingCode CodeRefusal) (returns : List ℕ) (a b : Status) (s t : List ℕ) → IsRun v returns a s → IsRun v returns b t → (a ≡ b) × (s ≡ t)
  one_run (Refused why) returns a b s t h k = (h.0 ∙ sym k.0, h.1 ∙ sym k.1)
  one_run (Good c) returns a b s t h k =
      one_run_output c h.0 a b s t h.2
      (subst (λ (v : Verdict Election ReturnsRefusal). IsCodeOutput c v b t) (sym (one_returns_verdict returns h.0 k.0 h.1 k.1)) k.2)

  pub one_output_of_runs : HasOneRun
  one_output_of_runs file returns a b s t h k =
      one_run h.0 returns a b s t h.2 (subst (λ (v : Verdict CountingCode CodeRefusal). IsRun v returns b t) (sym (no_other file h.0 k.0 h.1 k.1)) k.2)

-- ---- an output

module _ (one_verdict : OneCodeVerdict) (no_other : NoOtherCodeVerdict) (never_stuck : NeverStuck) where
  abbrev SomeOutput : (Status → List ℕ → Type 0) → Type 0
  SomeOutput Is = (o : Status × List ℕ) × Is o.0 o.1

  ended : (c : CountingCode) (e : Election) (end : Ending) → end ≢ Stuck → SomeOutput (IsRunOutput c e (answer_of c e end))
  ended c e (Ended (Halted base vacant s)) told = ((status.Done, short_text (held_table e (held_of c e base vacant s)) e), (refl, refl))
  ended c e (Ended (Faulted f)) told = ((status.Legal, fault_text (code_names c) e f), (refl, refl))
  ended c e OutOfBudget told = ((status.Budget, out_of_budget), (refl, refl))
  ended c e Stuck told = absurd (told refl)

  code_output : (c : CountingCode) (returns : List ℕ) (v : Verdict Election ReturnsRefusal) → IsWellKinded c → IsReturnsVerdict returns v → SomeOutput (IsCodeOutput c v)
  code_output c returns (Refused why) kinded judged = ((status.Refused, returns_line why), (refl, refl))
  code_output c returns (Good e) kinded judged =
      let budget : ℕ = budget_of (length c.stages) e in
      ended c e (ending c e budget) (never_stuck c e kinded (read_is (records_in returns) e judged.1) budget)

  run_output : (file returns : List ℕ) (v : Verdict CountingCode CodeRefusal) → IsCodeVerdict file v → SomeOutput (IsRunCode file returns)
  run_output file returns (Refused why) judged = ((status.Refused, code_line why), (Refused why, judged, (refl, refl)))
  run_output file returns (Good c) judged =
      let read = one_returns returns in
      let out = code_output c returns read.one judged.2 read.is in
      (out.0, (Good c, judged, (read.one, read.is, out.1)))

  same_output : (o p : Status × List ℕ) → (o.0 ≡ p.0) × (o.1 ≡ p.1) → o ≡ p
  same_output (a, s) (b, t) same = cc

  pub one_run_of_bytes : OneRun
  one_run_of_bytes file returns are =
      let v = one_verdict file are in
      let out = run_output file returns v.one v.is in
      record {
        one = out.0;
        is = out.1;
        only = λ o h. same_output o out.0 (one_output_of_runs no_other file returns o.0 out.0.0 o.1 out.0.1 h out.1);
      }

-- ---- the code of a book

module _ (b : BookTree) (c : CountingCode) (is : IsCompiled b c) (typed : is_typed b ≡ true) where
  ended_counts : (e : Election) (end : End) (ends : Status) (output : List ℕ) → IsElection e → ending_by b c e ≡ Ended end
      → IsRunOutput c e (answer_of c e (Ended end)) ends output → IsTreeOutput ShowsSeats b (Good e) ends output
  ended_counts e (Halted base vacant s) ends output in_range at written =
      let o = some_outcome b e typed in_range in
      inl (written.0, (held_table e (held_of c e base vacant s), table_is_meant Kept b c e is in_range base vacant s at o.0 o.1, written.1))
  ended_counts e (Faulted f) ends output in_range at written =
      inr (written.0, (f, fault_is_meant Kept b c e is in_range f (ap (answer_of c e) at), written.1 ∙ ap (λ (names : List (List ℕ)). fault_text names e f) is.stages))

  code_counts : (returns : List ℕ) (v : Verdict Election ReturnsRefusal) (ends : Status) (output : List ℕ) → IsReturnsVerdict returns v → IsCodeOutput c v ends output
      → IsTreeOutput ShowsSeats b v ends output
  code_counts returns (Refused why) ends output judged written = written
  code_counts returns (Good e) ends output judged written =
      let in_range = read_is (records_in returns) e judged.1 in
      let end = is.ends e in_range in
      let same : ending c e (budget_of (length c.stages) e) ≡ Ended end.0 = ap (λ (n : ℕ). ending c e (budget_of n e)) (code_stages_long b c is) ∙ end.1 in
      ended_counts e end.0 ends output in_range end.1 (subst (λ x. IsRunOutput c e (answer_of c e x) ends output) same written)

  pub run_counts : (returns : List ℕ) (ends : Status) (output : List ℕ) → IsRun (Good c) returns ends output → IsCount ShowsSeats (Good b) returns ends output
  run_counts returns ends output h = (h.0, h.1, code_counts returns h.0 ends output h.1 h.2)

pub run_is_count : NoOtherCodeVerdict → RunIsCount
run_is_count no_other b file text returns ends output typed h run =
    run_counts b h.code h.compiled typed returns ends output
    ((runs_its_code no_other h.code returns ends output h.proper h.kinded).0 (subst (λ bytes. IsRunCode bytes returns ends output) h.spelled run))
