-- The verifier accepts the instructions of a fine plan.
use Rattle.std.proofs.Common.{◌≡◌, ℕ, ◌+◌, Bool, true, false, not, ◌&&◌, List, [], ◌∷◌, ◌++◌, Option, Some, None, slice_get, if◌then◌else◌, refl, sym, ap, subst, ◌∙◌}
use Rattle.std.proofs.lemmas.Bool.{and_parts}
use Rattle.std.specs.Prelude.{is_some, option_and_then}
use Rattle.std.specs.Option.{option_map_or}
use Rattle.sl_base_terms.specs.declared.shape.Shape.{Shape}
use Rattle.sl_code_instructions.specs.declared.instr.Instr.{Instr}
use Rattle.sl_code_instructions.specs.declared.instr.Instr.TheVariants.{Set, Sub, Jmp, Jz, At}
use Rattle.sl_code_instructions.specs.declared.kinds.Kinds.{Kinds}
use Rattle.sl_code_instructions.specs.Codes.{CountingCode}
use Rattle.sl_code_instructions.specs.Rows.{target_of}
use Rattle.sl_code_instructions.specs.Standing.{HasAt}
use Rattle.sl_code_semantics.specs.Kinds.{implies, includes, covers, fits_table}
use Rattle.sl_code_semantics.specs.Leaves.{ends, behind, carried}
use Rattle.sl_code_semantics.specs.Needs.{Context, has_needs}
use Rattle.sl_code_semantics.specs.Pieces.{kinds_here, comes_next, comes_after, meets, has_own, is_passed, are_passed, IsWithin}
use Rattle.sl_code_semantics.specs.WellKinded.{declared_by, declared_at, context_of, leads_well}
use Rattle.sl_code_semantics.proofs.kinds.Passing.{both_hold}
use Rattle.sl_code_semantics.proofs.kinds.PieceFacts.{comes_in_row, passed_in_row, passed_within}
use Rattle.sl_compile_plans.specs.declared.plan.Test.{Test}
use Rattle.sl_compile_plans.specs.declared.plan.Test.TheVariants as test
use Rattle.sl_compile_plans.specs.declared.plan.Bound.{Bound}
use Rattle.sl_compile_plans.specs.declared.plan.Cursor.{Cursor}
use Rattle.sl_compile_plans.specs.declared.plan.Cursor.TheVariants as cursor
use Rattle.sl_compile_plans.specs.Trees.{Tree, Line, Stop, Then, If, Each, Times, is_nothing, size_of, flat, jump_of, to_first, to_next, ones, at_join, known_after_all, kinds_after, known_in_arm, known_in_other, known_in_turn, known_after_loop}
use Rattle.sl_compile_plans.specs.Fine.{bare, kinds_next, kinds_in_turn, kinds_along_all, kinds_along, is_plain, is_fine_line, is_fine, ArePassed, FinePlansPass}
use Rattle.sl_compile_plans.proofs.Arms.{by_arm, nothing_is, flat_if}
use Rattle.sl_compile_plans.proofs.Places.{first_plan, second_plan, unless_stands, if_stands, each_stands, times_stands}

-- ---- tests

not_so : (b : Bool) → not b ≡ true → b ≡ false
not_so true h = cc
not_so false h = refl

is_none : {A : Type 0} (o : Option A) → is_some o ≡ false → o ≡ None
is_none None h = refl
is_none (Some x) h = cc

-- ---- lists that pass
module _ (x : Context) where
  nothing : (o : Option Kinds) → ArePassed x o [] o
  nothing o = record { passed = refl; after = refl }

  in_row : (o m n : Option Kinds) (a b : List Instr) → ArePassed x o a m → ArePassed x m b n → ArePassed x o (a ++ b) n
  in_row o m n a b first rest = record {
    passed = passed_in_row x o a b ∙ both_hold (are_passed x o a) (are_passed x (comes_after o a) b) first.passed (ap (λ c. are_passed x c b) first.after ∙ rest.passed);
    after = comes_in_row o a b ∙ ap (λ c. comes_after c b) first.after ∙ rest.after;
  }

  -- one instruction that declares nothing, with what comes after it
  module _ (k : Kinds) (i : Instr) (none : declared_by i ≡ None) (needs : has_needs x k i ≡ true) (leads : leads_well x (carried k i) (target_of i) ≡ true) where
    one : (m n : Option Kinds) (is : List Instr) → behind k i ≡ m → ArePassed x m is n → ArePassed x (Some k) (i ∷ is) n
    one m n is next rest =
        let own : is_passed x (Some k) i ≡ true = ap (λ d. meets (Some k) d && has_own x (kinds_here (Some k) d) i) none ∙ both_hold (has_needs x k i) (leads_well x (carried k i) (target_of i)) needs leads in
        let after : comes_next (Some k) i ≡ m = ap (λ d. behind (kinds_here (Some k) d) i) none ∙ next in
        record {
          passed = both_hold (is_passed x (Some k) i) (are_passed x (comes_next (Some k) i) is) own (ap (λ c. are_passed x c is) after ∙ rest.passed);
          after = ap (λ c. comes_after c is) after ∙ rest.after;
        }

    goes_on : (n : Option Kinds) (is : List Instr) → ends i ≡ false → ArePassed x (Some (kinds_next k i)) is n → ArePassed x (Some k) (i ∷ is) n
    goes_on n is on rest = one (Some (kinds_next k i)) n is (ap (λ (b : Bool). if b then None else Some (kinds_next k i)) on) rest

    ends_there : (n : Option Kinds) (is : List Instr) → ends i ≡ true → ArePassed x None is n → ArePassed x (Some k) (i ∷ is) n
    ends_there n is over rest = one None n is (ap (λ (b : Bool). if b then None else Some (kinds_next k i)) over) rest

  -- a declaration
  declares : (o n : Option Kinds) (d : Kinds) (is : List Instr) → meets o (Some d) ≡ true → has_needs x d (At d) ≡ true → ArePassed x (Some d) is n → ArePassed x o (At d ∷ is) n
  declares o n d is implied needs rest = record {
    passed = both_hold (is_passed x o (At d)) (are_passed x (Some d) is) (both_hold (meets o (Some d)) (has_own x d (At d)) implied (both_hold (has_needs x d (At d)) true needs refl)) rest.passed;
    after = rest.after;
  }

-- ---- jumps of tests and loops

-- what a jump to that place has in common with one to another
record SameJump (i j : Instr) (to : ℕ) : Type 0 where
  goes_on : ends i ≡ false
  declares_none : declared_by i ≡ None
  target : target_of i ≡ Some to
  needs : (x : Context) (k : Kinds) → has_needs x k i ≡ has_needs x k j
  carries : (k : Kinds) → carried k i ≡ carried k j
  next : (k : Kinds) → kinds_next k i ≡ kinds_next k j

test_jump : (t : Test) (to : ℕ) → SameJump (jump_of t to) (jump_of t 0) to
test_jump (test.Zero r) to = record { goes_on = refl; declares_none = refl; target = refl; needs = λ x k. refl; carries = λ k. refl; next = λ k. refl }
test_jump _ to = record { goes_on = refl; declares_none = refl; target = refl; needs = λ x k. refl; carries = λ k. refl; next = λ k. refl }

first_jump : (over : Cursor) (to : ℕ) → SameJump (to_first over to) (to_first over 0) to
first_jump cursor.Party to = record { goes_on = refl; declares_none = refl; target = refl; needs = λ x k. refl; carries = λ k. refl; next = λ k. refl }
first_jump _ to = record { goes_on = refl; declares_none = refl; target = refl; needs = λ x k. refl; carries = λ k. refl; next = λ k. refl }

next_jump : (over : Cursor) (to : ℕ) → SameJump (to_next over to) (to_next over 0) to
next_jump cursor.Party to = record { goes_on = refl; declares_none = refl; target = refl; needs = λ x k. refl; carries = λ k. refl; next = λ k. refl }
next_jump _ to = record { goes_on = refl; declares_none = refl; target = refl; needs = λ x k. refl; carries = λ k. refl; next = λ k. refl }

-- ---- what is known, and what comes
bare_line : (k : Kinds) (is : List Instr) → bare (kinds_along_all k is) ≡ known_after_all (bare k) is
bare_line k [] = refl
bare_line k (i ∷ is) = bare_line (kinds_next k i) is

bare_along : (k : Kinds) (tree : Tree) → bare (kinds_along k tree) ≡ kinds_after (bare k) tree
bare_along k (Line is) = bare_line k is
bare_along k (Stop i) = refl
bare_along k (Then a b) = bare_along (kinds_along k a) b ∙ ap (λ m. kinds_after m b) (bare_along k a)
bare_along k (Each cursor.Party a) = refl
bare_along k (Each _ a) = refl
bare_along k _ = refl

bare_other : (k : Kinds) (t : Test) → bare (kinds_next k (jump_of t 0)) ≡ known_in_other (bare k) t
bare_other k t = refl

bare_turn : (k : Kinds) (over : Cursor) → bare (known_in_turn (bare k) over) ≡ known_in_turn (bare k) over
bare_turn k cursor.Party = refl
bare_turn k _ = refl

-- ---- plans
module _ (code : CountingCode) (slots : ℕ → Option Shape) (stages : ℕ) where
  -- the code's declarations, with these slots and stages
  abbrev all : Context
  all = record { slots = slots; stages = stages; declared = declared_at code }

  abbrev Pass : Tree → Type 0
  Pass tree = (k : Kinds) (p : ℕ) → HasAt code p (flat (bare k) p tree) → is_fine all k tree ≡ true → ArePassed all (Some k) (flat (bare k) p tree) (Some (kinds_along k tree))

  -- with what is known under another name
  pass_as : (tree : Tree) → Pass tree → (k m : Kinds) (p : ℕ) → bare k ≡ m → HasAt code p (flat m p tree) → is_fine all k tree ≡ true → ArePassed all (Some k) (flat m p tree) (Some (kinds_along k tree))
  pass_as tree pass k m p is has fine = subst (λ n. HasAt code p (flat n p tree) → ArePassed all (Some k) (flat n p tree) (Some (kinds_along k tree))) is (λ h. pass k p h fine) has

  leads_to : (k d : Kinds) (t : Option ℕ) (q : ℕ) → t ≡ Some q → slice_get code.instrs q ≡ Some (At d) → implies k d ≡ true → leads_well all k t ≡ true
  leads_to k d t q is at implied = ap (leads_well all k) is ∙ ap (λ i. option_map_or (implies k) (option_and_then declared_by i) false) at ∙ implied

  leads_nowhere : (k : Kinds) (t : Option ℕ) → t ≡ None → leads_well all k t ≡ true
  leads_nowhere k t is = ap (leads_well all k) is

  line_passes : (is : List Instr) (k : Kinds) → is_fine_line all k is ≡ true → ArePassed all (Some k) is (Some (kinds_along_all k is))
  line_passes [] k fine = nothing all (Some k)
  line_passes (i ∷ is) k fine =
      let plain = and_parts (is_plain i) _ fine in
      let parts = and_parts (not (is_some (target_of i))) (not (is_some (declared_by i))) plain.0 in
      let on = and_parts (not (ends i)) _ plain.1 in
      let needs = and_parts (has_needs all k i) (is_fine_line all (kinds_next k i) is) on.1 in
      goes_on all k i (is_none (declared_by i) (not_so _ parts.1)) needs.0 (leads_nowhere (carried k i) (target_of i) (is_none (target_of i) (not_so _ parts.0)))
      (Some (kinds_along_all k (i ∷ is))) is (not_so (ends i) on.0) (line_passes is (kinds_next k i) needs.1)

  stop_passes : (i : Instr) → Pass (Stop i)
  stop_passes i k p has fine =
      let d = at_join (bare k) in
      let plain = and_parts (is_plain i) _ fine in
      let parts = and_parts (not (is_some (target_of i))) (not (is_some (declared_by i))) plain.0 in
      let over = and_parts (ends i) _ plain.1 in
      let needs = and_parts (has_needs all k i) (has_needs all d (At d)) over.1 in
      ends_there all k i (is_none (declared_by i) (not_so _ parts.1)) needs.0 (leads_nowhere (carried k i) (target_of i) (is_none (target_of i) (not_so _ parts.0)))
      (Some d) (At d ∷ []) over.0 (declares all None (Some d) d [] refl needs.1 (nothing all (Some d)))

  -- what implies a declaration without positive registers, and what this implies besides, implies both
  implied_on : (have mid need : Kinds) → have.cursors ≡ mid.cursors → have.table ≡ mid.table → mid.positive ≡ need.positive → implies have mid ≡ true → implies mid need ≡ true → implies have need ≡ true
  implied_on have mid need cursors table positive first second =
      let one = and_parts (includes have.positive mid.positive && covers have.cursors mid.cursors) (fits_table have.table mid.table) first in
      let positives = and_parts (includes have.positive mid.positive) (covers have.cursors mid.cursors) one.0 in
      let two = and_parts (includes mid.positive need.positive && covers mid.cursors need.cursors) (fits_table mid.table need.table) second in
      let rest = and_parts (includes mid.positive need.positive) (covers mid.cursors need.cursors) two.0 in
      both_hold (includes have.positive need.positive && covers have.cursors need.cursors) (fits_table have.table need.table)
      (both_hold (includes have.positive need.positive) (covers have.cursors need.cursors)
      (ap (λ m. includes have.positive m) (sym positive) ∙ positives.0) (ap (λ m. covers m need.cursors) cursors ∙ rest.1))
      (ap (λ m. fits_table m need.table) table ∙ two.1)

  -- without an arm
  unless_passes : (t : Test) (b : Tree) → Pass b → Pass (If t (Line []) b)
  unless_passes t b pass_b k p has fine =
      let end = p + size_of b + 1 in
      let parts = unless_stands code t b (bare k) p has in
      let d = at_join (bare k) in
      let in_arm = known_in_arm (bare k) t in
      let in_other = kinds_next k (jump_of t 0) in
      let after_b = kinds_along in_other b in
      let fb = flat (known_in_other (bare k) t) (p + 1) b in
      let f1 = and_parts (has_needs all k (jump_of t 0)) _ fine in
      let f2 = and_parts (implies (carried k (jump_of t 0)) in_arm) _ f1.1 in
      let f3 = and_parts (is_fine all in_other b) _ f2.1 in
      let f4 = and_parts (has_needs all after_b (Jmp 0)) _ f3.1 in
      let f5 = and_parts (implies (carried after_b (Jmp 0)) d) _ f4.1 in
      let f6 = and_parts (has_needs all in_arm (At in_arm)) _ f5.1 in
      let f7 = and_parts (is_fine all in_arm (Line [])) _ f6.1 in
      let f8 = and_parts (implies in_arm d) (has_needs all d (At d)) f7.1 in
      let last : ArePassed all (Some after_b) (At d ∷ []) (Some d) = declares all (Some after_b) (Some d) d [] f5.0 f8.1 (nothing all (Some d)) in
      let from_other : ArePassed all (Some in_other) (fb ++ (At d ∷ [])) (Some d) =
      in_row all (Some in_other) (Some after_b) (Some d) fb (At d ∷ []) (pass_as b pass_b in_other (known_in_other (bare k) t) (p + 1) (bare_other k t) parts.other f3.0) last in
      let jump = test_jump t end in
      let implied : implies (carried k (jump_of t end)) d ≡ true = ap (λ m. implies m d) (jump.carries k) ∙ implied_on (carried k (jump_of t 0)) in_arm d refl refl refl f2.0 f8.0 in
      goes_on all k (jump_of t end) jump.declares_none (jump.needs all k ∙ f1.0) (leads_to (carried k (jump_of t end)) d (target_of (jump_of t end)) end jump.target parts.joined implied)
      (Some d) (fb ++ (At d ∷ [])) jump.goes_on (subst (λ m. ArePassed all (Some m) (fb ++ (At d ∷ [])) (Some d)) (sym (jump.next k)) from_other)

  -- with one
  if_passes : (t : Test) (a b : Tree) → is_nothing a ≡ false → Pass a → Pass b → Pass (If t a b)
  if_passes t a b some pass_a pass_b k p has fine =
      let arm = p + size_of b + 2 in
      let end = arm + size_of a + 1 in
      let parts = if_stands code t a b some (bare k) p has in
      let d = at_join (bare k) in
      let in_arm = known_in_arm (bare k) t in
      let in_other = kinds_next k (jump_of t 0) in
      let after_a = kinds_along in_arm a in
      let after_b = kinds_along in_other b in
      let fa = flat in_arm (arm + 1) a in
      let fb = flat (known_in_other (bare k) t) (p + 1) b in
      let f1 = and_parts (has_needs all k (jump_of t 0)) _ fine in
      let f2 = and_parts (implies (carried k (jump_of t 0)) in_arm) _ f1.1 in
      let f3 = and_parts (is_fine all in_other b) _ f2.1 in
      let f4 = and_parts (has_needs all after_b (Jmp 0)) _ f3.1 in
      let f5 = and_parts (implies (carried after_b (Jmp 0)) d) _ f4.1 in
      let f6 = and_parts (has_needs all in_arm (At in_arm)) _ f5.1 in
      let f7 = and_parts (is_fine all in_arm a) _ f6.1 in
      let f8 = and_parts (implies after_a d) (has_needs all d (At d)) f7.1 in
      let last : ArePassed all (Some after_a) (At d ∷ []) (Some d) = declares all (Some after_a) (Some d) d [] f8.0 f8.1 (nothing all (Some d)) in
      let from_arm : ArePassed all None (At in_arm ∷ (fa ++ (At d ∷ []))) (Some d) =
      declares all None (Some d) in_arm (fa ++ (At d ∷ [])) refl f6.0
      (in_row all (Some in_arm) (Some after_a) (Some d) fa (At d ∷ []) (pass_as a pass_a in_arm in_arm (arm + 1) refl parts.arm_plan f7.0) last) in
      let from_leave : ArePassed all (Some after_b) (Jmp end ∷ (At in_arm ∷ (fa ++ (At d ∷ [])))) (Some d) =
      ends_there all after_b (Jmp end) refl f4.0 (leads_to (carried after_b (Jmp end)) d (Some end) end refl parts.joined f5.0) (Some d) (At in_arm ∷ (fa ++ (At d ∷ []))) refl from_arm in
      let from_other : ArePassed all (Some in_other) (fb ++ (Jmp end ∷ (At in_arm ∷ (fa ++ (At d ∷ []))))) (Some d) =
      in_row all (Some in_other) (Some after_b) (Some d) fb (Jmp end ∷ (At in_arm ∷ (fa ++ (At d ∷ [])))) (pass_as b pass_b in_other (known_in_other (bare k) t) (p + 1) (bare_other k t) parts.other f3.0) from_leave in
      let jump = test_jump t arm in
      let implied : implies (carried k (jump_of t arm)) in_arm ≡ true = ap (λ m. implies m in_arm) (jump.carries k) ∙ f2.0 in
      subst (λ (is : List Instr). ArePassed all (Some k) is (Some d)) (sym (flat_if t a b some (bare k) p))
      (goes_on all k (jump_of t arm) jump.declares_none (jump.needs all k ∙ f1.0) (leads_to (carried k (jump_of t arm)) in_arm (target_of (jump_of t arm)) arm jump.target parts.declared implied)
      (Some d) (fb ++ (Jmp end ∷ (At in_arm ∷ (fa ++ (At d ∷ []))))) jump.goes_on
      (subst (λ m. ArePassed all (Some m) (fb ++ (Jmp end ∷ (At in_arm ∷ (fa ++ (At d ∷ []))))) (Some d)) (sym (jump.next k)) from_other))

  choice_passes : (t : Test) (a b : Tree) → Pass a → Pass b → Pass (If t a b)
  choice_passes t a b pass_a pass_b = by_arm a
      (λ none. subst (λ (arm : Tree). Pass (If t arm b)) (sym (nothing_is a none)) (unless_passes t b pass_b))
      (λ some. if_passes t a b some pass_a pass_b)

  each_passes : (over : Cursor) (a : Tree) → Pass a → Pass (Each over a)
  each_passes over a pass_a k p has fine =
      let back = p + size_of a + 2 in
      let end = p + size_of a + 3 in
      let parts = each_stands code over a (bare k) p has in
      let here = known_in_turn (bare k) over in
      let d = known_after_loop (bare k) over in
      let last = kinds_along here a in
      let fa = flat here (p + 2) a in
      let first = first_jump over end in
      let next = next_jump over (p + 1) in
      let f1 = and_parts (has_needs all k (to_first over 0)) _ fine in
      let f2 = and_parts (implies (carried k (to_first over 0)) d) _ f1.1 in
      let f3 = and_parts (implies (kinds_next k (to_first over 0)) here) _ f2.1 in
      let f4 = and_parts (has_needs all here (At here)) _ f3.1 in
      let f5 = and_parts (is_fine all here a) _ f4.1 in
      let f6 = and_parts (has_needs all last (to_next over 0)) _ f5.1 in
      let f7 = and_parts (implies (carried last (to_next over 0)) here) _ f6.1 in
      let f8 = and_parts (implies (kinds_next last (to_next over 0)) d) (has_needs all d (At d)) f7.1 in
      let carried_out : implies (carried k (to_first over end)) d ≡ true = ap (λ m. implies m d) (first.carries k) ∙ f2.0 in
      let carried_back : implies (carried last (to_next over (p + 1))) here ≡ true = ap (λ m. implies m here) (next.carries last) ∙ f7.0 in
      let comes_in : implies (kinds_next k (to_first over end)) here ≡ true = ap (λ m. implies m here) (first.next k) ∙ f3.0 in
      let comes_out : implies (kinds_next last (to_next over (p + 1))) d ≡ true = ap (λ m. implies m d) (next.next last) ∙ f8.0 in
      let from_next : ArePassed all (Some last) (to_next over (p + 1) ∷ (At d ∷ [])) (Some d) =
      goes_on all last (to_next over (p + 1)) next.declares_none (next.needs all last ∙ f6.0)
      (leads_to (carried last (to_next over (p + 1))) here (target_of (to_next over (p + 1))) (p + 1) next.target parts.declared carried_back)
      (Some d) (At d ∷ []) next.goes_on (declares all (Some (kinds_next last (to_next over (p + 1)))) (Some d) d [] comes_out f8.1 (nothing all (Some d))) in
      let from_here : ArePassed all (Some here) (fa ++ (to_next over (p + 1) ∷ (At d ∷ []))) (Some d) =
      in_row all (Some here) (Some last) (Some d) fa (to_next over (p + 1) ∷ (At d ∷ [])) (pass_as a pass_a here here (p + 2) (bare_turn k over) parts.body f5.0) from_next in
      goes_on all k (to_first over end) first.declares_none (first.needs all k ∙ f1.0) (leads_to (carried k (to_first over end)) d (target_of (to_first over end)) end first.target parts.joined carried_out)
      (Some d) (At here ∷ (fa ++ (to_next over (p + 1) ∷ (At d ∷ [])))) first.goes_on
      (declares all (Some (kinds_next k (to_first over end))) (Some d) here (fa ++ (to_next over (p + 1) ∷ (At d ∷ []))) comes_in f4.0 from_here)

  times_passes : (r : ℕ) (m : Bound) (a : Tree) → Pass a → Pass (Times r m a)
  times_passes r m a pass_a k p has fine =
      let back = p + size_of a + 4 in
      let end = p + size_of a + 5 in
      let parts = times_stands code r m a (bare k) p has in
      let head = at_join (bare k) in
      let tested = kinds_next head (Jz r 0) in
      let counted = kinds_next tested (Set ones 1) in
      let inside = kinds_in_turn head r in
      let last = kinds_along inside a in
      let fa = flat head (p + 4) a in
      let from_jump = Jmp p ∷ (At head ∷ []) in
      let f1 = and_parts (implies k head) _ fine in
      let f2 = and_parts (has_needs all head (At head)) _ f1.1 in
      let f3 = and_parts (has_needs all head (Jz r 0)) _ f2.1 in
      let f4 = and_parts (implies (carried head (Jz r 0)) head) _ f3.1 in
      let f5 = and_parts (has_needs all tested (Set ones 1)) _ f4.1 in
      let f6 = and_parts (has_needs all counted (Sub r ones)) _ f5.1 in
      let f7 = and_parts (is_fine all inside a) _ f6.1 in
      let f8 = and_parts (has_needs all last (Jmp 0)) (implies (carried last (Jmp 0)) head) f7.1 in
      let jump_back : ArePassed all (Some last) from_jump (Some head) =
      ends_there all last (Jmp p) refl f8.0 (leads_to (carried last (Jmp p)) head (Some p) p refl parts.declared f8.1) (Some head) (At head ∷ []) refl
      (declares all None (Some head) head [] refl f2.0 (nothing all (Some head))) in
      let turn : ArePassed all (Some inside) (fa ++ from_jump) (Some head) =
      in_row all (Some inside) (Some last) (Some head) fa from_jump (pass_as a pass_a inside head (p + 4) refl parts.body f7.0) jump_back in
      declares all (Some k) (Some head) head (Jz r end ∷ (Set ones 1 ∷ (Sub r ones ∷ (fa ++ from_jump)))) f1.0 f2.0
      (goes_on all head (Jz r end) refl f3.0 (leads_to (carried head (Jz r end)) head (Some end) end refl parts.joined f4.0) (Some head) (Set ones 1 ∷ (Sub r ones ∷ (fa ++ from_jump))) refl
      (goes_on all tested (Set ones 1) refl f5.0 refl (Some head) (Sub r ones ∷ (fa ++ from_jump)) refl
      (goes_on all counted (Sub r ones) refl f6.0 refl (Some head) (fa ++ from_jump) refl turn)))

  plan_passes : (tree : Tree) → Pass tree
  plan_passes (Line is) k p has fine = line_passes is k fine
  plan_passes (Stop i) k p has fine = stop_passes i k p has fine
  plan_passes (Then a b) k p has fine =
      let parts = and_parts (is_fine all k a) (is_fine all (kinds_along k a) b) fine in
      let q = p + size_of a in
      in_row all (Some k) (Some (kinds_along k a)) (Some (kinds_along k (Then a b))) (flat (bare k) p a) (flat (kinds_after (bare k) a) q b)
      (plan_passes a k p (first_plan code a b (bare k) p has) parts.0)
      (pass_as b (plan_passes b) (kinds_along k a) (kinds_after (bare k) a) q (bare_along k a) (second_plan code a b (bare k) p has) parts.1)
  plan_passes (If t a b) k p has fine = choice_passes t a b (plan_passes a) (plan_passes b) k p has fine
  plan_passes (Each over a) k p has fine = each_passes over a (plan_passes a) k p has fine
  plan_passes (Times r m a) k p has fine = times_passes r m a (plan_passes a) k p has fine

pub fine_plans_pass : FinePlansPass
fine_plans_pass code slots stages k p tree has there enough fine =
    let inside : IsWithin (all code slots stages) (context_of code) = record { slots = there; stages = enough; declared = λ t d h. h } in
    let passes = plan_passes code slots stages tree k p has fine in
    record { passed = passed_within (all code slots stages) (context_of code) (Some k) (flat (bare k) p tree) inside passes.passed; after = passes.after }
