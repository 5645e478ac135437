-- How many instructions a plan is, and where the parts of each form stand.
use Rattle.std.proofs.Common.{◌≡◌, ℕ, suc, ◌+◌, Bool, true, false, List, [], ◌∷◌, ◌++◌, length, Some, slice_get, if◌then◌else◌, refl, subst, arith, length-append}
use Rattle.sl_code_instructions.specs.declared.instr.Instr.{Instr}
use Rattle.sl_code_instructions.specs.declared.instr.Instr.TheVariants.{Set, Sub, Jmp, Jz, At}
use Rattle.sl_code_instructions.specs.declared.kinds.Kinds.{Kinds}
use Rattle.sl_code_instructions.specs.Codes.{CountingCode}
use Rattle.sl_code_instructions.specs.Standing.{HasAt}
use Rattle.sl_code_instructions.proofs.Standing.{prefix_stands, rest_stands, first_stands, next_stand}
use Rattle.sl_compile_plans.specs.declared.plan.Test.{Test}
use Rattle.sl_compile_plans.specs.declared.plan.Cursor.{Cursor}
use Rattle.sl_compile_plans.specs.declared.plan.Bound.{Bound}
use Rattle.sl_compile_plans.proofs.Arms.{flat_if}
use Rattle.sl_compile_plans.specs.Trees.{Tree, Line, Stop, Then, If, Each, Times, is_nothing, size_of, flat, with_arm, without_arm, jump_of, to_first, to_next, ones, at_join, kinds_after, known_in_arm, known_in_other, known_in_turn, known_after_loop}

length-either : (n : Bool) (xs ys : List Instr) (x y : ℕ) → length xs ≡ x → length ys ≡ y → length (if n then xs else ys) ≡ (if n then x else y)
length-either true xs ys x y is_x is_y = is_x
length-either false xs ys x y is_x is_y = is_y

pub length-flat : (tree : Tree) (k : Kinds) (p : ℕ) → length (flat k p tree) ≡ size_of tree
length-flat (Line is) k p = refl
length-flat (Stop i) k p = refl
length-flat (Then a b) k p =
    let ka = kinds_after k a in
    omega (arith, length-append (flat k p a) (flat ka (p + size_of a) b), length-flat a k p, length-flat b ka (p + size_of a))
length-flat (If t a b) k p =
    let arm = p + size_of b + 2 in
    let end = arm + size_of a + 1 in
    let fa = flat (known_in_arm k t) (arm + 1) a in
    let fb = flat (known_in_other k t) (p + 1) b in
    let joined = At (at_join k) ∷ [] in
    let none : length (without_arm k t (p + size_of b + 1) fb) ≡ size_of b + 2 = omega (arith, length-append fb joined, length-flat b (known_in_other k t) (p + 1)) in
    let some : length (with_arm k t arm end fa fb) ≡ size_of a + size_of b + 4 =
    omega (arith, length-append fb (Jmp end ∷ (At (known_in_arm k t) ∷ (fa ++ joined))), length-append fa joined, length-flat a (known_in_arm k t) (arm + 1), length-flat b (known_in_other k t) (p + 1)) in
    length-either (is_nothing a) (without_arm k t (p + size_of b + 1) fb) (with_arm k t arm end fa fb) (size_of b + 2) (size_of a + size_of b + 4) none some
length-flat (Each over a) k p =
    let fa = flat (known_in_turn k over) (p + 2) a in
    omega (arith, length-append fa (to_next over (p + 1) ∷ (At (known_after_loop k over) ∷ [])), length-flat a (known_in_turn k over) (p + 2))
length-flat (Times r m a) k p =
    let fa = flat (at_join k) (p + 4) a in
    omega (arith, length-append fa (Jmp p ∷ (At (at_join k) ∷ [])), length-flat a (at_join k) (p + 4))

module _ (c : CountingCode) where
  -- the same instructions at a place under another name
  moved : (p q : ℕ) (is : List Instr) → p ≡ q → HasAt c p is → HasAt c q is
  moved p q is same h = subst (λ (n : ℕ). HasAt c n is) same h

  -- what stands after the first
  behind_one : (p q : ℕ) (i : Instr) (is : List Instr) → p + 1 ≡ q → HasAt c p (i ∷ is) → HasAt c q is
  behind_one p q i is same h = let next : suc p ≡ q = omega arith in moved (suc p) q is next (next_stand c p i is h)

  -- what stands after a plan
  behind_plan : (tree : Tree) (k : Kinds) (p q : ℕ) (is : List Instr) → p + size_of tree ≡ q → HasAt c p (flat k p tree ++ is) → HasAt c q is
  behind_plan tree k p q is same h =
      let there : p + length (flat k p tree) ≡ q = omega (arith, length-flat tree k p) in
      moved (p + length (flat k p tree)) q is there (rest_stands c p (flat k p tree) is h)

  -- ---- the two plans of `Then`
  pub first_plan : (a b : Tree) (k : Kinds) (p : ℕ) → HasAt c p (flat k p (Then a b)) → HasAt c p (flat k p a)
  first_plan a b k p h = prefix_stands c p (flat k p a) (flat (kinds_after k a) (p + size_of a) b) h

  pub second_plan : (a b : Tree) (k : Kinds) (p : ℕ) → HasAt c p (flat k p (Then a b)) → HasAt c (p + size_of a) (flat (kinds_after k a) (p + size_of a) b)
  second_plan a b k p h = behind_plan a k p (p + size_of a) (flat (kinds_after k a) (p + size_of a) b) refl h

  -- ---- the parts of `If` without an arm
  pub record UnlessStands (t : Test) (b : Tree) (k : Kinds) (p end : ℕ) : Type 0 where
    pub jump : slice_get c.instrs p ≡ Some (jump_of t end)
    pub other : HasAt c (p + 1) (flat (known_in_other k t) (p + 1) b)
    pub joined : slice_get c.instrs end ≡ Some (At (at_join k))

  pub unless_stands : (t : Test) (b : Tree) (k : Kinds) (p : ℕ) → HasAt c p (flat k p (If t (Line []) b)) → UnlessStands t b k p (p + size_of b + 1)
  unless_stands t b k p h =
      let end = p + size_of b + 1 in
      let fb = flat (known_in_other k t) (p + 1) b in
      let last = At (at_join k) ∷ [] in
      let other = behind_one p (p + 1) (jump_of t end) (fb ++ last) refl h in
      let to_end : p + 1 + size_of b ≡ end = omega arith in
      record {
        jump = first_stands c p (jump_of t end) (fb ++ last) h;
        other = prefix_stands c (p + 1) fb last other;
        joined = first_stands c end (At (at_join k)) [] (behind_plan b (known_in_other k t) (p + 1) end last to_end other);
      }

  -- ---- the parts of `If` with one
  pub record IfStands (t : Test) (a b : Tree) (k : Kinds) (p arm end : ℕ) : Type 0 where
    pub jump : slice_get c.instrs p ≡ Some (jump_of t arm)
    pub other : HasAt c (p + 1) (flat (known_in_other k t) (p + 1) b)
    pub leave : slice_get c.instrs (p + 1 + size_of b) ≡ Some (Jmp end)
    pub declared : slice_get c.instrs arm ≡ Some (At (known_in_arm k t))
    pub arm_plan : HasAt c (arm + 1) (flat (known_in_arm k t) (arm + 1) a)
    pub joined : slice_get c.instrs end ≡ Some (At (at_join k))

  pub if_stands : (t : Test) (a b : Tree) → is_nothing a ≡ false → (k : Kinds) (p : ℕ) → HasAt c p (flat k p (If t a b)) → IfStands t a b k p (p + size_of b + 2) (p + size_of b + 2 + size_of a + 1)
  if_stands t a b some k p has =
      let h = subst (λ (is : List Instr). HasAt c p is) (flat_if t a b some k p) has in
      let arm = p + size_of b + 2 in
      let end = arm + size_of a + 1 in
      let fa = flat (known_in_arm k t) (arm + 1) a in
      let fb = flat (known_in_other k t) (p + 1) b in
      let last = At (at_join k) ∷ [] in
      let from_arm = At (known_in_arm k t) ∷ (fa ++ last) in
      let other = behind_one p (p + 1) (jump_of t arm) (fb ++ (Jmp end ∷ from_arm)) refl h in
      let leave = behind_plan b (known_in_other k t) (p + 1) (p + 1 + size_of b) (Jmp end ∷ from_arm) refl other in
      let to_arm : p + 1 + size_of b + 1 ≡ arm = omega arith in
      let declared = behind_one (p + 1 + size_of b) arm (Jmp end) from_arm to_arm leave in
      let arm_plan = behind_one arm (arm + 1) (At (known_in_arm k t)) (fa ++ last) refl declared in
      let to_end : arm + 1 + size_of a ≡ end = omega arith in
      let joined = behind_plan a (known_in_arm k t) (arm + 1) end last to_end arm_plan in
      record {
        jump = first_stands c p (jump_of t arm) (fb ++ (Jmp end ∷ from_arm)) h;
        other = prefix_stands c (p + 1) fb (Jmp end ∷ from_arm) other;
        leave = first_stands c (p + 1 + size_of b) (Jmp end) from_arm leave;
        declared = first_stands c arm (At (known_in_arm k t)) (fa ++ last) declared;
        arm_plan = prefix_stands c (arm + 1) fa last arm_plan;
        joined = first_stands c end (At (at_join k)) [] joined;
      }

  -- ---- the parts of `Each`
  pub record EachStands (over : Cursor) (a : Tree) (k : Kinds) (p back end : ℕ) : Type 0 where
    pub start : slice_get c.instrs p ≡ Some (to_first over end)
    pub declared : slice_get c.instrs (p + 1) ≡ Some (At (known_in_turn k over))
    pub body : HasAt c (p + 2) (flat (known_in_turn k over) (p + 2) a)
    pub on : slice_get c.instrs back ≡ Some (to_next over (p + 1))
    pub joined : slice_get c.instrs end ≡ Some (At (known_after_loop k over))

  pub each_stands : (over : Cursor) (a : Tree) (k : Kinds) (p : ℕ) → HasAt c p (flat k p (Each over a)) → EachStands over a k p (p + size_of a + 2) (p + size_of a + 3)
  each_stands over a k p h =
      let back = p + size_of a + 2 in
      let end = p + size_of a + 3 in
      let inside = known_in_turn k over in
      let fa = flat inside (p + 2) a in
      let last = At (known_after_loop k over) ∷ [] in
      let declared = behind_one p (p + 1) (to_first over end) (At inside ∷ (fa ++ (to_next over (p + 1) ∷ last))) refl h in
      let to_body : p + 1 + 1 ≡ p + 2 = omega arith in
      let body = behind_one (p + 1) (p + 2) (At inside) (fa ++ (to_next over (p + 1) ∷ last)) to_body declared in
      let to_back : p + 2 + size_of a ≡ back = omega arith in
      let on = behind_plan a inside (p + 2) back (to_next over (p + 1) ∷ last) to_back body in
      let to_end : back + 1 ≡ end = omega arith in
      record {
        start = first_stands c p (to_first over end) (At inside ∷ (fa ++ (to_next over (p + 1) ∷ last))) h;
        declared = first_stands c (p + 1) (At inside) (fa ++ (to_next over (p + 1) ∷ last)) declared;
        body = prefix_stands c (p + 2) fa (to_next over (p + 1) ∷ last) body;
        on = first_stands c back (to_next over (p + 1)) last on;
        joined = first_stands c end (At (known_after_loop k over)) [] (behind_one back end (to_next over (p + 1)) last to_end on);
      }

  -- ---- the parts of `Times`
  pub record TimesStands (r : ℕ) (a : Tree) (k : Kinds) (p back end : ℕ) : Type 0 where
    pub declared : slice_get c.instrs p ≡ Some (At (at_join k))
    pub test : slice_get c.instrs (p + 1) ≡ Some (Jz r end)
    pub one : slice_get c.instrs (p + 2) ≡ Some (Set ones 1)
    pub less : slice_get c.instrs (p + 3) ≡ Some (Sub r ones)
    pub body : HasAt c (p + 4) (flat (at_join k) (p + 4) a)
    pub again : slice_get c.instrs back ≡ Some (Jmp p)
    pub joined : slice_get c.instrs end ≡ Some (At (at_join k))

  pub times_stands : (r : ℕ) (m : Bound) (a : Tree) (k : Kinds) (p : ℕ) → HasAt c p (flat k p (Times r m a)) → TimesStands r a k p (p + size_of a + 4) (p + size_of a + 5)
  times_stands r m a k p h =
      let back = p + size_of a + 4 in
      let end = p + size_of a + 5 in
      let fa = flat (at_join k) (p + 4) a in
      let last = At (at_join k) ∷ [] in
      let from_body = fa ++ (Jmp p ∷ last) in
      let from_less = Sub r ones ∷ from_body in
      let from_one = Set ones 1 ∷ from_less in
      let from_test = Jz r end ∷ from_one in
      let test = behind_one p (p + 1) (At (at_join k)) from_test refl h in
      let one = behind_one (p + 1) (p + 2) (Jz r end) from_one (omega arith) test in
      let less = behind_one (p + 2) (p + 3) (Set ones 1) from_less (omega arith) one in
      let body = behind_one (p + 3) (p + 4) (Sub r ones) from_body (omega arith) less in
      let to_back : p + 4 + size_of a ≡ back = omega arith in
      let again = behind_plan a (at_join k) (p + 4) back (Jmp p ∷ last) to_back body in
      let to_end : back + 1 ≡ end = omega arith in
      record {
        declared = first_stands c p (At (at_join k)) from_test h;
        test = first_stands c (p + 1) (Jz r end) from_one test;
        one = first_stands c (p + 2) (Set ones 1) from_less one;
        less = first_stands c (p + 3) (Sub r ones) from_body less;
        body = prefix_stands c (p + 4) fa (Jmp p ∷ last) body;
        again = first_stands c back (Jmp p) last again;
        joined = first_stands c end (At (at_join k)) [] (behind_one back end (Jmp p) last to_end again);
      }
