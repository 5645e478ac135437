-- Pieces of runs: what the machine comes to within so many steps (docs/machine.md, section 4).
use Rattle.std.specs.Prelude.{◌≡◌, ◌≤◌, ℕ, ◌+◌}
use Rattle.sl_law_meaning.specs.returns.Election.{Election}
use Rattle.sl_code_instructions.specs.Codes.{CountingCode}
use Rattle.sl_code_semantics.specs.State.{State, End}
use Rattle.sl_code_semantics.specs.Runs.{Ended, run}

-- from place p and state s the machine comes within so many steps to place q and state t: from there each longer run goes on
pub record Comes (c : CountingCode) (e : Election) (bound p : ℕ) (s : State) (q : ℕ) (t : State) : Type 0 where
  pub steps : ℕ
  pub within : steps ≤ bound
  pub goes_on : (budget : ℕ) → run c e (steps + budget) p s ≡ run c e budget q t

-- from there it ends within so many steps with that end: so does each longer run
pub record Finishes (c : CountingCode) (e : Election) (bound p : ℕ) (s : State) (x : End) : Type 0 where
  pub steps : ℕ
  pub within : steps ≤ bound
  pub ends : (budget : ℕ) → run c e (steps + budget) p s ≡ Ended x
