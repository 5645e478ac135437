-- Pieces of runs: a step, one piece after another, and more steps than are needed.
use Rattle.std.proofs.Common.{◌≡◌, ℕ, suc, ◌+◌, ◌-◌, ◌≤◌, Some, slice_get, ap, subst, ◌∙◌, arith}
use Rattle.sl_law_meaning.specs.returns.Election.{Election}
use Rattle.sl_code_instructions.specs.Codes.{CountingCode}
use Rattle.sl_code_instructions.specs.declared.instr.Instr.{Instr}
use Rattle.sl_code_instructions.specs.Rows.{target_of}
use Rattle.sl_code_semantics.specs.State.{State, End}
use Rattle.sl_code_semantics.specs.Effects.{Goes, Jumps, Ends, effect}
use Rattle.sl_code_semantics.specs.Runs.{Ended, run}
use Rattle.sl_code_semantics.specs.Comes.{Comes, Finishes}
use Rattle.sl_code_semantics.proofs.runs.Stepping.{step_goes, step_jumps, step_ends, run_on, run_over}

module _ (c : CountingCode) (e : Election) where
  -- ---- no step, and one
  pub stays : (p : ℕ) (s : State) → Comes c e 0 p s p s
  stays p s = record { steps = 0; within = omega arith; goes_on = λ n. let none : 0 + n ≡ n = omega arith in ap (λ (k : ℕ). run c e k p s) none }

  one_more : (n p : ℕ) (s : State) → run c e (1 + n) p s ≡ run c e (suc n) p s
  one_more n p s = let one : 1 + n ≡ suc n = omega arith in ap (λ (k : ℕ). run c e k p s) one

  module _ (p : ℕ) (s : State) (i : Instr) (at : slice_get c.instrs p ≡ Some i) where
    pub goes : (t : State) → effect c e i s ≡ Goes t → Comes c e 1 p s (p + 1) t
    goes t is = record { steps = 1; within = omega arith; goes_on = λ n. one_more n p s ∙ run_on c e p (p + 1) s t (step_goes c e p s i at t is) n }

    pub jumps : (t : State) (q : ℕ) → effect c e i s ≡ Jumps t → target_of i ≡ Some q → Comes c e 1 p s q t
    jumps t q is target = record { steps = 1; within = omega arith; goes_on = λ n. one_more n p s ∙ run_on c e p q s t (step_jumps c e p s i at t q is target) n }

    pub ends : (x : End) → effect c e i s ≡ Ends x → Finishes c e 1 p s x
    ends x is = record { steps = 1; within = omega arith; ends = λ n. one_more n p s ∙ run_over c e p s x (step_ends c e p s i at x is) n }

  -- ---- one piece after another
  pub after : (a b p q r : ℕ) (s t u : State) → Comes c e a p s q t → Comes c e b q t r u → Comes c e (a + b) p s r u
  after a b p q r s t u first next = record {
    steps = first.steps + next.steps;
    within = omega (arith, first.within, next.within);
    goes_on = λ n.
        let together : first.steps + next.steps + n ≡ first.steps + (next.steps + n) = omega arith in
        ap (λ (k : ℕ). run c e k p s) together ∙ first.goes_on (next.steps + n) ∙ next.goes_on n;
  }

  pub ends_after : (a b p q : ℕ) (s t : State) (x : End) → Comes c e a p s q t → Finishes c e b q t x → Finishes c e (a + b) p s x
  ends_after a b p q s t x first next = record {
    steps = first.steps + next.steps;
    within = omega (arith, first.within, next.within);
    ends = λ n.
        let together : first.steps + next.steps + n ≡ first.steps + (next.steps + n) = omega arith in
        ap (λ (k : ℕ). run c e k p s) together ∙ first.goes_on (next.steps + n) ∙ next.ends n;
  }

  -- ---- other bounds, and places under another name
  pub wider : (a b p q : ℕ) (s t : State) → a ≤ b → Comes c e a p s q t → Comes c e b p s q t
  wider a b p q s t h piece = record { steps = piece.steps; within = omega (arith, piece.within); goes_on = piece.goes_on }

  pub ends_wider : (a b p : ℕ) (s : State) (x : End) → a ≤ b → Finishes c e a p s x → Finishes c e b p s x
  ends_wider a b p s x h piece = record { steps = piece.steps; within = omega (arith, piece.within); ends = piece.ends }

  pub comes_at : (a p q r : ℕ) (s t : State) → q ≡ r → Comes c e a p s q t → Comes c e a p s r t
  comes_at a p q r s t h piece = subst (λ (k : ℕ). Comes c e a p s k t) h piece

  -- ---- more steps than are needed
  pub ended : (a n p : ℕ) (s : State) (x : End) → Finishes c e a p s x → a ≤ n → run c e n p s ≡ Ended x
  ended a n p s x piece h =
      let rest : n ≡ piece.steps + (n - piece.steps) = omega (arith, piece.within) in
      ap (λ (k : ℕ). run c e k p s) rest ∙ piece.ends (n - piece.steps)
