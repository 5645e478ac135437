-- What a run comes to without what it records: all but the seat steps and the weights.
use Rattle.std.specs.Prelude.{[]}
use Rattle.sl_code_semantics.specs.State.{State, End, Halted, Faulted}
use Rattle.sl_code_semantics.specs.Runs.{Ending, Ended, OutOfBudget, Stuck}

-- the state without seat steps and weights
abbrev pub unrecorded : State → State
unrecorded s = record s { steps = []; weights = [] }

-- the same end, from that state
abbrev pub unrecorded_end : End → End
unrecorded_end (Halted base vacant s) = Halted base vacant (unrecorded s)
unrecorded_end (Faulted fault) = Faulted fault

abbrev pub without_records : Ending → Ending
without_records (Ended end) = Ended (unrecorded_end end)
without_records OutOfBudget = OutOfBudget
without_records Stuck = Stuck
