-- What the end of the run of a counting code writes (docs/output.md, sections 1 and 2).
use Rattle.std.specs.Prelude.{List, None, Option, Some, [], codes, ◌∷◌, ◌≡◌, ℕ}
use Rattle.sl_count_calls.specs.Outcomes.{code_names}
use Rattle.sl_count_inputs.specs.declared.status.Status.TheVariants as status
use Rattle.sl_count_inputs.specs.declared.status.Status.{Status}
use Rattle.sl_code_instructions.specs.Codes.{CountingCode}
use Rattle.sl_machine.specs.declared.machine.Ending.TheVariants as answer
use Rattle.sl_machine.specs.declared.machine.Ending.{Ending as Answer}
use Rattle.sl_code_semantics.specs.Tables.{held_table}
use Rattle.sl_law_meaning.specs.returns.Election.{Election}
use Rattle.sl_count_texts.specs.Faults.{fault_text}
use Rattle.sl_count_texts.specs.Lines.{line}
use Rattle.sl_count_texts.specs.Short.{short_text}

-- the line of a run that needs more steps than it may take
abbrev pub out_of_budget : List ℕ
out_of_budget = line (codes "out" ∷ codes "of" ∷ codes "budget" ∷ [])

-- the seats that are held; or the text of the fault; or the line of a run out of its budget
abbrev pub IsEndingOutput : CountingCode → Election → Answer → Status → List ℕ → Type 0
IsEndingOutput c e (answer.Done held) ends output = (ends ≡ status.Done) × (output ≡ short_text (held_table e held) e)
IsEndingOutput c e (answer.Fault f) ends output = (ends ≡ status.Legal) × (output ≡ fault_text (code_names c) e f)
IsEndingOutput c e answer.OutOfBudget ends output = (ends ≡ status.Budget) × (output ≡ out_of_budget)

-- what a run of a code writes, by its answer; a run that is stuck writes nothing, and no run of accepted code is
abbrev pub IsRunOutput : CountingCode → Election → Option Answer → Status → List ℕ → Type 0
IsRunOutput c e (Some answer) ends output = IsEndingOutput c e answer ends output
IsRunOutput c e None ends output = ⊥
