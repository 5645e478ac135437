-- A run on its way through a code.
use Rattle.std.specs.Prelude.{◌≡◌, ◌<◌, ◌≤◌, ◌+◌, ◌*◌, ◌-◌, ℕ, suc, List, [], ◌∷◌, Some, IsTrue, drop, length, slice_get}
use Rattle.sl_law_meaning.specs.returns.Election.{Election}
use Rattle.sl_code_instructions.specs.Codes.{CountingCode}
use Rattle.sl_code_semantics.specs.Agrees.{IsSafe}
use Rattle.sl_code_semantics.specs.Runs.{Ending, OutOfBudget, run}
use Rattle.sl_code_semantics.specs.State.{State}
use Rattle.sl_machine.specs.declared.clock.Clock.{Clock}
use Rattle.sl_code_steps.specs.declared.step.Records.{Records}
use Rattle.sl_machine.specs.declared.way.Standing.{Standing}
use Rattle.sl_code_steps.specs.inner.Ends.{ends_run}
use Rattle.sl_code_steps.specs.inner.Recording.{state_by, ending_by}
use Rattle.sl_machine.specs.inner.Ways.{standing_from}

-- the steps that are left at a place to which a run came straight
abbrev pub steps_left : Clock → ℕ → ℕ
steps_left clock place = clock.left - (place - clock.since)

-- a run has come straight to a place where this one stands, and after it the others; what it is to go on from there is safe
pub record IsHere (k : Records) (c : CountingCode) (e : Election) (clock : Clock) (here : Standing) (others : List Standing) (s : State) : Type 0 where
  pub stands : slice_get c.instrs here.place ≡ Some here.instr
  pub behind : others ≡ standing_from k (here.place + 1) (drop (here.place + 1) c.instrs)
  pub since : clock.since ≤ here.place
  pub safe : IsSafe c e here.place s
  pub none : state_by k s ≡ s

-- it has these ahead
abbrev pub IsUnderWay : Records → CountingCode → Election → Clock → List Standing → State → Type 0
IsUnderWay k c e clock [] s = ⊥
IsUnderWay k c e clock (here ∷ others) s = IsHere k c e clock here others s

-- how it ends from there
abbrev pub rest_of : Records → CountingCode → Election → Clock → List Standing → State → Ending
rest_of k c e clock [] s = OutOfBudget
rest_of k c e clock (here ∷ others) s = ending_by k (run c e (steps_left clock here.place) here.place s)

-- the jumps to come, and between them the instructions: it goes down with each step
abbrev pub work : CountingCode → Clock → List Standing → ℕ
work c clock ahead = clock.left * suc (length c.instrs) + length ahead

-- it goes on, and ends as it would have
pub record GoesOn (k : Records) (c : CountingCode) (e : Election) (clock : Clock) (ahead : List Standing) (s : State) (after : Clock) (next : List Standing) (t : State) : Type 0 where
  pub under_way : IsUnderWay k c e after next t
  pub same : rest_of k c e clock ahead s ≡ rest_of k c e after next t
  pub less : work c after next < work c clock ahead

-- no step is left for the first of those ahead
abbrev pub IsOut : Clock → List Standing → Type 0
IsOut clock [] = ⊥
IsOut clock (here ∷ others) = steps_left clock here.place ≡ 0

-- the first of those ahead ends the run
abbrev pub EndsFirst : List Standing → Type 0
EndsFirst [] = ⊥
EndsFirst (here ∷ others) = IsTrue (ends_run here.instr)
