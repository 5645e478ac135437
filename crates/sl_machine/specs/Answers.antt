-- What a run answers: the ending, with what is held in the last state (docs/machine.md, section 1).
use Rattle.std.specs.Prelude.{Option, Some, None}
use Rattle.sl_law_meaning.specs.returns.Election.{Election}
use Rattle.sl_code_instructions.specs.Codes.{CountingCode}
use Rattle.sl_machine.specs.declared.machine.Ending.{Ending as Answer}
use Rattle.sl_machine.specs.declared.machine.Ending.TheVariants as answer
use Rattle.sl_code_semantics.specs.State.{Halted, Faulted}
use Rattle.sl_code_semantics.specs.Runs.{Ending, Ended, OutOfBudget, Stuck}
use Rattle.sl_code_semantics.specs.Memories.{held_of}

-- the answer of an ending; a run that is stuck has none
abbrev pub answer_of : CountingCode → Election → Ending → Option Answer
answer_of c e (Ended (Halted base vacant s)) = Some (answer.Done (held_of c e base vacant s))
answer_of c e (Ended (Faulted fault)) = Some (answer.Fault fault)
answer_of c e OutOfBudget = Some answer.OutOfBudget
answer_of c e Stuck = None
