-- Pieces of runs that follow a plan: one after another, single instructions, lines.
use Rattle.std.proofs.Common.{◌≡◌, ℕ, suc, ◌+◌, ◌≤◌, List, [], ◌∷◌, length, Some, slice_get, refl, subst, arith}
use Rattle.sl_law_meaning.specs.returns.Election.{Election}
use Rattle.sl_code_instructions.specs.declared.instr.Instr.{Instr}
use Rattle.sl_code_instructions.specs.declared.instr.Instr.TheVariants.{Jmp, At}
use Rattle.sl_code_instructions.specs.declared.kinds.Kinds.{Kinds}
use Rattle.sl_code_instructions.specs.Codes.{CountingCode}
use Rattle.sl_code_instructions.specs.Standing.{HasAt}
use Rattle.sl_code_instructions.proofs.Standing.{first_stands, next_stand}
use Rattle.sl_code_instructions.specs.Rows.{target_of}
use Rattle.sl_code_semantics.specs.State.{State}
use Rattle.sl_code_semantics.specs.Comes.{Comes}
use Rattle.sl_code_semantics.specs.Effects.{Effect, Goes, Jumps, Ends, NoCase, effect}
use Rattle.sl_code_semantics.proofs.runs.Coming.{stays, goes, jumps, ends, after, ends_after, wider, ends_wider, comes_at}
use Rattle.sl_compile_plans.specs.declared.plan.Cursor.{Cursor}
use Rattle.sl_compile_plans.specs.declared.plan.Cursor.TheVariants as cursor
use Rattle.sl_compile_plans.specs.declared.plan.Test.{Test}
use Rattle.sl_compile_plans.specs.declared.plan.Test.TheVariants as test
use Rattle.sl_compile_plans.specs.Trees.{jump_of, to_first, to_next}
use Rattle.sl_compile_plans.specs.Meaning.{Course, Onward, Final, Unsaid, then_do, passes, stops, branches, in_turn}
use Rattle.sl_compile_plans.specs.Following.{Follows}

-- ---- jumps

-- where a test leads does not depend on its target
pub same_jump : (t : Test) (to : ℕ) (c : CountingCode) (e : Election) (s : State) → effect c e (jump_of t to) s ≡ effect c e (jump_of t 0) s
same_jump (test.Zero r) to c e s = refl
same_jump _ to c e s = refl

pub jump_target : (t : Test) (to : ℕ) → target_of (jump_of t to) ≡ Some to
jump_target (test.Zero r) to = refl
jump_target _ to = refl

pub first_target : (over : Cursor) (to : ℕ) → target_of (to_first over to) ≡ Some to
first_target cursor.Party to = refl
first_target _ to = refl

pub next_target : (over : Cursor) (to : ℕ) → target_of (to_next over to) ≡ Some to
next_target cursor.Party to = refl
next_target _ to = refl

module _ (c : CountingCode) (e : Election) where
  -- ---- one piece after another
  pub follows_after : (a b p q r : ℕ) (s t : State) (o : Course) → Comes c e a p s q t → Follows c e b q t r o → Follows c e (a + b) p s r o
  follows_after a b p q r s t (Onward u) first next = after c e a b p q r s t u first next
  follows_after a b p q r s t (Final x) first next = ends_after c e a b p q s t x first next
  follows_after a b p q r s t Unsaid first next = tt

  pub follows_wider : (a b p q : ℕ) (s : State) (o : Course) → a ≤ b → Follows c e a p s q o → Follows c e b p s q o
  follows_wider a b p q s (Onward t) h piece = wider c e a b p q s t h piece
  follows_wider a b p q s (Final x) h piece = ends_wider c e a b p s x h piece
  follows_wider a b p q s Unsaid h piece = tt

  pub follows_at : (a p q r : ℕ) (s : State) (o : Course) → q ≡ r → Follows c e a p s q o → Follows c e a p s r o
  follows_at a p q r s o h piece = subst (λ (n : ℕ). Follows c e a p s n o) h piece

  pub in_order : (a b p q r : ℕ) (s : State) (o : Course) (next : State → Course) → Follows c e a p s q o → ((t : State) → Follows c e b q t r (next t)) → Follows c e (a + b) p s r (then_do o next)
  in_order a b p q r s (Onward t) next first rest = follows_after a b p q r s t (next t) first (rest t)
  in_order a b p q r s (Final x) next first rest = ends_wider c e a (a + b) p s x (omega arith) first
  in_order a b p q r s Unsaid next first rest = tt

  -- where it goes on, more steps that change nothing
  pub and_on : (a b p q r : ℕ) (s : State) (o : Course) → Follows c e a p s q o → ((t : State) → Comes c e b q t r t) → Follows c e (a + b) p s r o
  and_on a b p q r s (Onward t) first rest = after c e a b p q r s t t first (rest t)
  and_on a b p q r s (Final x) first rest = ends_wider c e a (a + b) p s x (omega arith) first
  and_on a b p q r s Unsaid first rest = tt

  -- ---- single instructions
  module _ (p : ℕ) (s : State) (i : Instr) (at : slice_get c.instrs p ≡ Some i) where
    pub passes_of : (x : Effect) → effect c e i s ≡ x → Follows c e 1 p s (p + 1) (passes x)
    passes_of (Goes t) is = goes c e p s i at t is
    passes_of _ is = tt

    pub stops_of : (q : ℕ) (x : Effect) → effect c e i s ≡ x → Follows c e 1 p s q (stops x)
    stops_of q (Goes t) is = tt
    stops_of q (Jumps t) is = tt
    stops_of q (Ends x) is = ends c e p s i at x is
    stops_of q NoCase is = tt

    pub branches_of : (to q b : ℕ) (arm other : State → Course) → target_of i ≡ Some to → ((t : State) → Follows c e b to t q (arm t)) → ((t : State) → Follows c e b (p + 1) t q (other t))
        → (x : Effect) → effect c e i s ≡ x → Follows c e (1 + b) p s q (branches x arm other)
    branches_of to q b arm other target in_arm in_other (Goes t) is = follows_after 1 b p (p + 1) q s t (other t) (goes c e p s i at t is) (in_other t)
    branches_of to q b arm other target in_arm in_other (Jumps t) is = follows_after 1 b p to q s t (arm t) (jumps c e p s i at t to is target) (in_arm t)
    branches_of to q b arm other target in_arm in_other _ is = tt

  pub declares : (p q : ℕ) (k : Kinds) → p + 1 ≡ q → slice_get c.instrs p ≡ Some (At k) → (s : State) → Comes c e 1 p s q s
  declares p q k next at s = comes_at c e 1 p (p + 1) q s s next (goes c e p s (At k) at s refl)

  pub leaves_for : (p q : ℕ) → slice_get c.instrs p ≡ Some (Jmp q) → (s : State) → Comes c e 1 p s q s
  leaves_for p q at s = jumps c e p s (Jmp q) at s q refl refl

  pub line_run : (is : List Instr) (p : ℕ) (s : State) → HasAt c p is → Follows c e (length is) p s (p + length is) (in_turn c e is s)
  line_run [] p s has = comes_at c e 0 p p (p + 0) s s (omega arith) (stays c e p s)
  line_run (i ∷ is) p s has =
      let next : suc p ≡ p + 1 = omega arith in
      let end : p + 1 + length is ≡ p + length (i ∷ is) = omega arith in
      let rest : HasAt c (p + 1) is = subst (λ (n : ℕ). HasAt c n is) next (next_stand c p i is has) in
      follows_wider (1 + length is) (length (i ∷ is)) p (p + length (i ∷ is)) s (in_turn c e (i ∷ is) s) (omega arith)
      (follows_at (1 + length is) p (p + 1 + length is) (p + length (i ∷ is)) s (in_turn c e (i ∷ is) s) end
      (in_order 1 (length is) p (p + 1) (p + 1 + length is) s (passes (effect c e i s)) (in_turn c e is)
      (passes_of p s i (first_stands c p i is has) (effect c e i s) refl)
      (λ t. line_run is (p + 1) t rest)))
