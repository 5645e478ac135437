-- The laws of the definitions, each of them the contract of a function of `laws`.
use Rattle.std.specs.Prelude.{◌≡◌, ◌≢◌, ℕ, ◌+◌, Some, IsTrue, slice_get}
use Rattle.sl_law_meaning.specs.returns.Election.{Election, IsElection}
use Rattle.sl_code_instructions.specs.declared.instr.Instr.{Instr}
use Rattle.sl_code_instructions.specs.Codes.{CountingCode}
use Rattle.sl_code_semantics.specs.Needs.{has_columns}
use Rattle.sl_code_instructions.specs.Rows.{target_of}
use Rattle.sl_code_semantics.specs.WellKinded.{IsWellKinded, context_of}
use Rattle.sl_code_semantics.specs.State.{State, End, start}
use Rattle.sl_code_semantics.specs.Effects.{Goes, Jumps, Ends, effect}
use Rattle.sl_code_semantics.specs.Fits.{FitsEnd}
use Rattle.sl_code_semantics.specs.Runs.{Stuck, ending}
use Rattle.sl_code_semantics.specs.Safe.{MayStep}
use Rattle.sl_code_semantics.specs.Agrees.{IsSafe}

-- a run of a well kinded code may begin
abbrev pub StartsAreSafe : Type 0
StartsAreSafe = (c : CountingCode) (e : Election) → IsWellKinded c → IsElection e → IsSafe c e 0 start

-- an instruction may jump to a place, and to come there in the state is safe
pub record LandsSafely (c : CountingCode) (e : Election) (i : Instr) (s : State) : Type 0 where
  pub place : ℕ
  pub target : target_of i ≡ Some place
  pub safe : IsSafe c e place s

-- an instruction stands at the place, the columns and the stage that it names are there, and it has a case in the state; to go on from there or
-- to jump is safe, and an end fits
pub record StepsSafely (c : CountingCode) (e : Election) (place : ℕ) (s : State) : Type 0 where
  pub instr : Instr
  pub stands : slice_get c.instrs place ≡ Some instr
  pub columns : IsTrue (has_columns (context_of c) instr)
  pub may : MayStep c e instr s
  pub goes : (t : State) → effect c e instr s ≡ Goes t → IsSafe c e (place + 1) t
  pub jumps : (t : State) → effect c e instr s ≡ Jumps t → LandsSafely c e instr t
  pub ends : (x : End) → effect c e instr s ≡ Ends x → FitsEnd c e x

-- each step from where a run may come is safe
abbrev pub SafeSteps : Type 0
SafeSteps = (c : CountingCode) (e : Election) (place : ℕ) (s : State) → IsSafe c e place s → StepsSafely c e place s

-- no run of a well kinded code is ever stuck
abbrev pub NeverStuck : Type 0
NeverStuck = (c : CountingCode) (e : Election) → IsWellKinded c → IsElection e → (budget : ℕ) → ending c e budget ≢ Stuck
