-- Where a step of the machine leads, and how its steps end.
use Rattle.std.specs.Prelude.{◌≡◌, ◌-◌, ℕ, suc, Option, Some, None, IsTrue, slice_get}
use Rattle.std.specs.Option.{ForSome}
use Rattle.sl_law_meaning.specs.returns.Election.{Election}
use Rattle.sl_code_instructions.specs.Codes.{CountingCode}
use Rattle.sl_code_steps.specs.declared.step.End.{End}
use Rattle.sl_code_steps.specs.inner.Ends.{ends_run}
use Rattle.sl_code_steps.specs.declared.step.Records.{Records}
use Rattle.sl_code_semantics.specs.State.{State}
use Rattle.sl_code_semantics.specs.Agrees.{IsSafe}
use Rattle.sl_code_semantics.specs.Fits.{FitsEnd}
use Rattle.sl_code_semantics.specs.Runs.{Ending, Ended, OutOfBudget, run}
use Rattle.sl_code_steps.specs.inner.Recording.{state_by, ending_by}
use Rattle.sl_code_steps.specs.inner.Stores.{end_with}

-- such a one stands at the place
abbrev pub EndsAt : CountingCode → ℕ → Type 0
EndsAt c p = ForSome (slice_get c.instrs p) (λ i. IsTrue (ends_run i))

-- so many steps from a place and a state lead to a place and a state that are safe: a run ends as one with so many steps less does from there, but for the
-- records where they are dropped, of which the state has none then
abbrev pub LeadsTo : Records → CountingCode → Election → ℕ → State → ℕ → ℕ → State → Type 0
LeadsTo k c e p s n q t = IsSafe c e q t × (state_by k t ≡ t) × ((left : ℕ) → ending_by k (run c e left p s) ≡ ending_by k (run c e (left - n) q t))

-- it ends in a way that fits
abbrev pub EndsWith : Records → CountingCode → Election → ℕ → State → End → State → Type 0
EndsWith k c e p s end t = FitsEnd c e (end_with end t) × ((n : ℕ) → ending_by k (run c e (suc n) p s) ≡ Ended (end_with end t))

-- how steps end that reach a state
abbrev pub ending_with : Option End → State → Ending
ending_with None s = OutOfBudget
ending_with (Some end) s = Ended (end_with end s)

-- an end that they reach fits
abbrev pub FitsWith : CountingCode → Election → Option End → State → Type 0
FitsWith c e None s = Unit {0}
FitsWith c e (Some end) s = FitsEnd c e (end_with end s)
