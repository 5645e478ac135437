-- Choices between two plans, whose arm may be no instruction.
use Rattle.std.proofs.Common.{◌≡◌, ℕ, ◌+◌, Bool, true, false, [], ◌∷◌, if◌then◌else◌, refl, ap}
use Rattle.sl_code_instructions.specs.declared.kinds.Kinds.{Kinds}
use Rattle.sl_compile_plans.specs.declared.plan.Test.{Test}
use Rattle.sl_compile_plans.specs.Trees.{Tree, Line, Stop, Then, If, Each, Times, is_nothing, size_of, flat, with_arm, without_arm, known_in_arm, known_in_other}

-- the only such arm
pub nothing_is : (a : Tree) → is_nothing a ≡ true → a ≡ Line []
nothing_is (Line []) h = refl
nothing_is (Line (i ∷ is)) h = cc
nothing_is (Stop i) h = cc
nothing_is (Then a b) h = cc
nothing_is (If t a b) h = cc
nothing_is (Each over a) h = cc
nothing_is (Times r m a) h = cc

-- by whether the arm is nothing
pub by_arm : {P : Type 0} (a : Tree) → (is_nothing a ≡ true → P) → (is_nothing a ≡ false → P) → P
by_arm {P} a none some = of (is_nothing a) refl
  where
    of : (b : Bool) → is_nothing a ≡ b → P
    of true h = none h
    of false h = some h

module _ (t : Test) (a b : Tree) (some : is_nothing a ≡ false) where
  pub size_if : size_of (If t a b) ≡ size_of a + size_of b + 4
  size_if = ap (λ (n : Bool). if n then size_of b + 2 else size_of a + size_of b + 4) some

  pub flat_if : (k : Kinds) (p : ℕ)
      → flat k p (If t a b) ≡ with_arm k t (p + size_of b + 2) (p + size_of b + 2 + size_of a + 1) (flat (known_in_arm k t) (p + size_of b + 2 + 1) a) (flat (known_in_other k t) (p + 1) b)
  flat_if k p =
      let other = flat (known_in_other k t) (p + 1) b in
      let arm = p + size_of b + 2 in
      ap (λ (n : Bool). if n then without_arm k t (p + size_of b + 1) other else with_arm k t arm (arm + size_of a + 1) (flat (known_in_arm k t) (arm + 1) a) other) some
