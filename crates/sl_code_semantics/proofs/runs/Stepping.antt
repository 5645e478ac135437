-- One step of a run, by the case of the effect.
use Rattle.std.proofs.Common.{◌≡◌, ℕ, ◌+◌, suc, Option, Some, slice_get, ap, ◌∙◌}
use Rattle.sl_law_meaning.specs.returns.Election.{Election}
use Rattle.sl_code_instructions.specs.Codes.{CountingCode}
use Rattle.sl_code_instructions.specs.declared.instr.Instr.{Instr}
use Rattle.sl_code_instructions.specs.Rows.{target_of}
use Rattle.sl_code_semantics.specs.State.{State, End}
use Rattle.sl_code_semantics.specs.Effects.{Effect, Goes, Jumps, Ends, effect}
use Rattle.sl_code_semantics.specs.Runs.{Step, To, Over, Ended, follow, to_target, step, step_of, after_step, run}

module _ (c : CountingCode) (e : Election) (p : ℕ) (s : State) (i : Instr) (at : slice_get c.instrs p ≡ Some i) where
  -- the step is where the effect leads
  pub step_is : (x : Effect) → effect c e i s ≡ x → step c e p s ≡ follow p (target_of i) x
  step_is x same = ap (λ (o : Option Instr). step_of c e o p s) at ∙ ap (follow p (target_of i)) same

  pub step_goes : (t : State) → effect c e i s ≡ Goes t → step c e p s ≡ To (p + 1) t
  step_goes t same = step_is (Goes t) same

  pub step_jumps : (t : State) (q : ℕ) → effect c e i s ≡ Jumps t → target_of i ≡ Some q → step c e p s ≡ To q t
  step_jumps t q same target = step_is (Jumps t) same ∙ ap (λ (o : Option ℕ). to_target o t) target

  pub step_ends : (x : End) → effect c e i s ≡ Ends x → step c e p s ≡ Over x
  step_ends x same = step_is (Ends x) same

-- a run after its first step
pub run_on : (c : CountingCode) (e : Election) (p q : ℕ) (s t : State) → step c e p s ≡ To q t → (n : ℕ) → run c e (suc n) p s ≡ run c e n q t
run_on c e p q s t is n = ap (λ (x : Step). after_step x (run c e n)) is

pub run_over : (c : CountingCode) (e : Election) (p : ℕ) (s : State) (x : End) → step c e p s ≡ Over x → (n : ℕ) → run c e (suc n) p s ≡ Ended x
run_over c e p s x is n = ap (λ (y : Step). after_step y (run c e n)) is
