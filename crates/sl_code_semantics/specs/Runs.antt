-- Runs of a code: one step after another, as many as a budget allows (docs/machine.md, section 4).
use Rattle.std.specs.Prelude.{ℕ, zero, suc, ◌+◌, ◌*◌, Option, Some, None, slice_get}
use Rattle.sl_base_quotients.specs.declared.limits.TheConstants.{MAX_SEATS}
use Rattle.sl_law_meaning.specs.returns.Election.{Election, lands_of, parties_of, wins_of}
use Rattle.sl_code_instructions.specs.declared.instr.Instr.{Instr}
use Rattle.sl_code_instructions.specs.Codes.{CountingCode}
use Rattle.sl_code_instructions.specs.Rows.{target_of}
use Rattle.sl_code_semantics.specs.declared.budget.TheConstants.{STEPS_EACH}
use Rattle.sl_code_semantics.specs.State.{State, End, start}
use Rattle.sl_code_semantics.specs.Effects.{Effect, Goes, Jumps, Ends, NoCase, effect}

-- ---- one step

-- where a step leads to: a place of the code and a state there, the end of the run, or nowhere
pub data Step : Type 0 where
  To : (place : ℕ) (state : State) → Step
  Over : (end : End) → Step
  Nowhere : Step

-- to a target, if there is one
abbrev pub to_target : Option ℕ → State → Step
to_target None s = Nowhere
to_target (Some target) s = To target s

-- where an effect leads from a place: to the next place, to the target, to the end
abbrev pub follow : ℕ → Option ℕ → Effect → Step
follow place target (Goes s) = To (place + 1) s
follow place target (Jumps s) = to_target target s
follow place target (Ends end) = Over end
follow place target NoCase = Nowhere

-- the step of what stands at a place
abbrev pub step_of : CountingCode → Election → Option Instr → ℕ → State → Step
step_of c e None place s = Nowhere
step_of c e (Some i) place s = follow place (target_of i) (effect c e i s)

abbrev pub step : CountingCode → Election → ℕ → State → Step
step c e place s = step_of c e (slice_get c.instrs place) place s

-- ---- runs

-- how a run ends: as an instruction says, or for want of steps. A run of code that the verifier accepts is never stuck
pub data Ending : Type 0 where
  Ended : (end : End) → Ending
  OutOfBudget : Ending
  Stuck : Ending

-- the rest of a run, from where a step came to
abbrev pub after_step : Step → (ℕ → State → Ending) → Ending
after_step (To place s) rest = rest place s
after_step (Over end) rest = Ended end
after_step Nowhere rest = Stuck

-- at most so many steps, from a place and a state on
abbrev pub run : CountingCode → Election → ℕ → ℕ → State → Ending
run c e zero place s = OutOfBudget
run c e (suc n) place s = after_step (step c e place s) (run c e n)

-- how a run from the start ends
abbrev pub ending : CountingCode → Election → ℕ → Ending
ending c e budget = run c e budget 0 start

-- ---- budgets

-- the steps that a stage may take
abbrev pub share_of : Election → ℕ
share_of e = STEPS_EACH * (parties_of e + 1) * (lands_of e + 1) * (MAX_SEATS + wins_of e + 2)

-- the steps that a book of so many stages may take: a share for each stage, and two for what stands before and after them
abbrev pub budget_of : ℕ → Election → ℕ
budget_of stages e = (stages + 2) * share_of e
