-- What the end of a run without its records writes is what the end of the run writes.
use Rattle.std.proofs.Common.{◌≡◌, ℕ, List, None, Some, refl, subst, sym, ◌∙◌}
use Rattle.std.proofs.lemmas.Option.{same_Some}
use Rattle.sl_count_calls.proofs.OneMeaning.{same_short}
use Rattle.sl_desk.specs.Endings.{IsEndingOutput, IsRunOutput}
use Rattle.sl_count_inputs.specs.declared.status.Status.{Status}
use Rattle.sl_code_instructions.specs.Codes.{CountingCode}
use Rattle.sl_machine.specs.Answers.{answer_of}
use Rattle.sl_machine.specs.declared.machine.Ending.TheVariants as answer
use Rattle.sl_machine.specs.declared.machine.Ending.{Ending as Answer}
use Rattle.sl_code_semantics.specs.Memories.{Held, held_of}
use Rattle.sl_code_semantics.specs.Runs.{Ended, Ending, OutOfBudget, Stuck}
use Rattle.sl_code_semantics.specs.State.{Faulted, Halted}
use Rattle.sl_code_semantics.specs.Tables.{held_table}
use Rattle.sl_code_semantics.specs.Unrecorded.{unrecorded, without_records}
use Rattle.sl_law_meaning.specs.returns.Election.{Election}

none_or_some : (a : Answer) → None ≡ Some a → ⊥
none_or_some a e = cc

pub run_output : (c : CountingCode) (e : Election) (end : Ending) (a : Answer) (ends : Status) (output : List ℕ) → answer_of c e (without_records end) ≡ Some a
    → IsEndingOutput c e a ends output → IsRunOutput c e (answer_of c e end) ends output
run_output c e (Ended (Halted base vacant s)) a ends output told written =
    let bare : Held = held_of c e base vacant (unrecorded s) in
    let said : IsEndingOutput c e (answer.Done bare) ends output = subst (λ x. IsEndingOutput c e x ends output) (sym (same_Some _ _ told)) written in
    (said.0, said.1 ∙ same_short (held_table e bare) (held_table e (held_of c e base vacant s)) e refl refl)
run_output c e (Ended (Faulted f)) a ends output told written =
    subst (λ x. IsEndingOutput c e x ends output) (sym (same_Some (answer.Fault f) a told)) written
run_output c e OutOfBudget a ends output told written =
    subst (λ x. IsEndingOutput c e x ends output) (sym (same_Some answer.OutOfBudget a told)) written
run_output c e Stuck a ends output told written = absurd (none_or_some a told)
