-- A plan with other slots, another stage and other numbers: what the verifier finds in it.
use Rattle.std.proofs.Common.{◌≡◌, ℕ, Bool, true, false, not, ◌&&◌, List, [], ◌∷◌, map, Option, Some, None, refl, sym, ap, ◌∙◌}
use Rattle.std.proofs.lemmas.Bool.{and_parts}
use Rattle.std.specs.Prelude.{nat_lt, is_some}
use Rattle.std.specs.Option.{option_map_or}
use Rattle.sl_base_terms.specs.declared.shape.Shape.{Shape}
use Rattle.sl_base_terms.specs.declared.shape.Shape.TheVariants as shape
use Rattle.sl_base_terms.specs.Shapes.{same_shape}
use Rattle.sl_code_instructions.specs.declared.instr.Instr.{Instr}
use Rattle.sl_code_instructions.specs.declared.instr.Instr.TheVariants as op
use Rattle.sl_code_instructions.specs.declared.kinds.Kinds.{Kinds}
use Rattle.sl_code_instructions.specs.declared.kinds.TableState.{TableState}
use Rattle.sl_code_semantics.specs.Kinds.{no_cursors, contains, with_register, covers, implies}
use Rattle.sl_code_semantics.specs.Needs.{Context, has_slot, has_column, has_stage, has_registers, has_columns, has_kinds, has_table, has_needs, input_shape, shape_cursors, needed_positive, needed_cursors}
use Rattle.sl_code_semantics.specs.Leaves.{ends, carried}
use Rattle.sl_code_semantics.proofs.kinds.Passing.{both_hold}
use Rattle.sl_compile_plans.specs.declared.plan.Bound.{Bound}
use Rattle.sl_compile_plans.specs.declared.plan.Cursor.{Cursor}
use Rattle.sl_compile_plans.specs.declared.plan.Cursor.TheVariants as cursor
use Rattle.sl_compile_plans.specs.declared.plan.Test.{Test}
use Rattle.sl_compile_plans.specs.declared.plan.Test.TheVariants as test
use Rattle.sl_compile_plans.specs.Trees.{Tree, Line, Stop, Then, If, Each, Times, jump_of, to_first, to_next, ones, at_join, known_in_arm, known_in_turn, known_after_loop}
use Rattle.sl_compile_plans.specs.Fine.{bare, kinds_next, kinds_in_turn, kinds_along_all, kinds_along, is_plain, is_fine_line, is_fine}

-- ---- renaming

-- which slot comes in the place of each, which stage in the place of all, and which number in the place of each that a register is set to
pub record Renaming : Type 0 where
  pub slot : ℕ → ℕ
  pub stage : ℕ
  pub number : ℕ → ℕ

module _ (names : Renaming) where
  abbrev pub renamed_instr : Instr → Instr
  renamed_instr (op.Set r n) = op.Set r (names.number n)
  renamed_instr (op.Get r k) = op.Get r (names.slot k)
  renamed_instr (op.Store k r) = op.Store (names.slot k) r
  renamed_instr (op.Zero k) = op.Zero (names.slot k)
  renamed_instr (op.Input k c) = op.Input (names.slot k) c
  renamed_instr (op.Halt k) = op.Halt (names.slot k)
  renamed_instr (op.Haltv k v) = op.Haltv (names.slot k) (names.slot v)
  renamed_instr (op.Lot n t) = op.Lot names.stage t
  renamed_instr (op.Takelot n) = op.Takelot names.stage
  renamed_instr (op.Emit n c r s) = op.Emit names.stage c r s
  renamed_instr (op.Given n c r) = op.Given names.stage c r
  renamed_instr (op.Fault n c f) = op.Fault names.stage c f
  renamed_instr (op.Tie n c r) = op.Tie names.stage c r
  renamed_instr (op.Weigh n c m r) = op.Weigh names.stage c m r
  renamed_instr i = i

  abbrev pub renamed_test : Test → Test
  renamed_test (test.NotCovered n) = test.NotCovered names.stage
  renamed_test t = t

  abbrev pub renamed : Tree → Tree
  renamed (Line is) = Line (map renamed_instr is)
  renamed (Stop i) = Stop (renamed_instr i)
  renamed (Then a b) = Then (renamed a) (renamed b)
  renamed (If t a b) = If (renamed_test t) (renamed a) (renamed b)
  renamed (Each over a) = Each over (renamed a)
  renamed (Times r m a) = Times r m (renamed a)

-- the second context has under the new names what the first has; a number is 0 where the one was whose place it takes
pub record Renames (names : Renaming) (x y : Context) : Type 0 where
  pub slots : (k : ℕ) (s : Shape) → x.slots k ≡ Some s → y.slots (names.slot k) ≡ Some s
  pub stage : has_stage y names.stage ≡ true
  pub numbers : (n : ℕ) → nat_lt 0 (names.number n) ≡ nat_lt 0 n

-- ---- tests

both : (a b c d : Bool) → (a ≡ true → c ≡ true) → (b ≡ true → d ≡ true) → (a && b) ≡ true → (c && d) ≡ true
both a b c d f g h = let parts = and_parts a b h in both_hold c d (f parts.0) (g parts.1)

-- where the first test is the same
kept : (a b d : Bool) → (b ≡ true → d ≡ true) → (a && b) ≡ true → (a && d) ≡ true
kept a b d g h = both a b a d (λ e. e) g h

module _ (names : Renaming) (x y : Context) (w : Renames names x y) where
  -- ---- instructions
  same_slot : (k : ℕ) → is_some (x.slots k) ≡ true → y.slots (names.slot k) ≡ x.slots k
  same_slot k = by_case (x.slots k) refl
    where
      by_case : (o : Option Shape) → x.slots k ≡ o → is_some o ≡ true → y.slots (names.slot k) ≡ x.slots k
      by_case None e h = cc
      by_case (Some s) e h = w.slots k s e ∙ sym e

  has_slot_there : (k : ℕ) → has_slot x k ≡ true → has_slot y (names.slot k) ≡ true
  has_slot_there k h = ap is_some (same_slot k h) ∙ h

  has_column_there : (k : ℕ) (s : Shape) → has_column x k s ≡ true → has_column y (names.slot k) s ≡ true
  has_column_there k s h = ap (λ o. option_map_or (same_shape s) o false) (same_slot k (is_there (x.slots k) h)) ∙ h
    where
      is_there : (o : Option Shape) → option_map_or (same_shape s) o false ≡ true → is_some o ≡ true
      is_there None e = cc
      is_there (Some t) e = refl

  columns : (i : Instr) → has_columns x i ≡ true → has_columns y (renamed_instr names i) ≡ true
  columns (op.Get r k) h = has_slot_there k h
  columns (op.Store k r) h = has_slot_there k h
  columns (op.Zero k) h = has_slot_there k h
  columns (op.Input k c) h = has_column_there k (input_shape c) h
  columns (op.Halt k) h = has_column_there k shape.List h
  columns (op.Haltv k v) h = both _ _ _ _ (has_column_there k shape.List) (has_column_there v shape.List) h
  columns (op.Lot n t) h = w.stage
  columns (op.Takelot n) h = w.stage
  columns (op.Emit n c r s) h = w.stage
  columns (op.Given n c r) h = w.stage
  columns (op.Fault n c f) h = w.stage
  columns (op.Tie n c r) h = w.stage
  columns (op.Weigh n c m r) h = w.stage
  columns _ h = refl

  cursors : (t : Option TableState) (i : Instr) → has_columns x i ≡ true → needed_cursors y t (renamed_instr names i) ≡ needed_cursors x t i
  cursors t (op.Get r k) h = ap (λ o. option_map_or shape_cursors o no_cursors) (same_slot k h)
  cursors t (op.Store k r) h = ap (λ o. option_map_or shape_cursors o no_cursors) (same_slot k h)
  cursors t _ h = refl

  record Alike (i : Instr) : Type 0 where
    registers : has_registers (renamed_instr names i) ≡ has_registers i
    positive : needed_positive (renamed_instr names i) ≡ needed_positive i
    table : (k : Kinds) → has_table k (renamed_instr names i) ≡ has_table k i
    plain : is_plain (renamed_instr names i) ≡ is_plain i
    ends : ends (renamed_instr names i) ≡ ends i
    next : (k : Kinds) → kinds_next k (renamed_instr names i) ≡ kinds_next k i

  alike : (i : Instr) → Alike i
  alike (op.Set r n) = record {
    registers = refl;
    positive = refl;
    table = λ k. refl;
    plain = refl;
    ends = refl;
    next = λ k. ap (λ (b : Bool). record { positive = with_register b r k.positive; cursors = k.cursors; table = k.table }) (w.numbers n);
  }
  alike _ = record { registers = refl; positive = refl; table = λ k. refl; plain = refl; ends = refl; next = λ k. refl }

  needs : (k : Kinds) (i : Instr) → has_needs x k i ≡ true → has_needs y k (renamed_instr names i) ≡ true
  needs k i h =
      let same = alike i in
      let most = and_parts (has_registers i && has_columns x i && has_kinds x k i) (has_table k i) h in
      let more = and_parts (has_registers i && has_columns x i) (has_kinds x k i) most.0 in
      let some = and_parts (has_registers i) (has_columns x i) more.0 in
      let kinds : has_kinds y k (renamed_instr names i) ≡ true =
      ap (λ r. option_map_or (contains k.positive) r true && covers k.cursors (needed_cursors y k.table (renamed_instr names i))) same.positive
      ∙ ap (λ c. option_map_or (contains k.positive) (needed_positive i) true && covers k.cursors c) (cursors k.table i some.1) ∙ more.1 in
      both_hold _ _ (both_hold _ _ (both_hold _ _ (same.registers ∙ some.0) (columns i some.1)) kinds) (same.table k ∙ most.1)

  -- ---- kinds
  along_all : (is : List Instr) (k : Kinds) → kinds_along_all k (map (renamed_instr names) is) ≡ kinds_along_all k is
  along_all [] k = refl
  along_all (i ∷ is) k = ap (λ m. kinds_along_all m (map (renamed_instr names) is)) ((alike i).next k) ∙ along_all is (kinds_next k i)

  along : (tree : Tree) (k : Kinds) → kinds_along k (renamed names tree) ≡ kinds_along k tree
  along (Line is) k = along_all is k
  along (Stop i) k = refl
  along (Then a b) k = ap (λ m. kinds_along m (renamed names b)) (along a k) ∙ along b (kinds_along k a)
  along _ k = refl

  -- ---- plans
  abbrev StaysFine : Tree → Type 0
  StaysFine tree = (k : Kinds) → is_fine x k tree ≡ true → is_fine y k (renamed names tree) ≡ true

  line_fine : (is : List Instr) (k : Kinds) → is_fine_line x k is ≡ true → is_fine_line y k (map (renamed_instr names) is) ≡ true
  line_fine [] k h = refl
  line_fine (i ∷ is) k h =
      both _ _ _ _ (λ e. (alike i).plain ∙ e)
      (both _ _ _ _ (λ e. ap not ((alike i).ends) ∙ e)
      (both _ _ _ _ (needs k i) (λ e. ap (λ m. is_fine_line y m (map (renamed_instr names) is)) ((alike i).next k) ∙ line_fine is (kinds_next k i) e))) h

  stop_fine : (i : Instr) → StaysFine (Stop i)
  stop_fine i k h = both _ _ _ _ (λ e. (alike i).plain ∙ e) (both _ _ _ _ (λ e. (alike i).ends ∙ e) (both _ _ _ _ (needs k i) (λ e. e))) h

  -- what the jump of a test needs, and what is known after it
  record SameTest (t : Test) (k : Kinds) : Type 0 where
    jump : jump_of (renamed_test names t) 0 ≡ renamed_instr names (jump_of t 0)
    carries : carried k (jump_of (renamed_test names t) 0) ≡ carried k (jump_of t 0)
    arm : known_in_arm (bare k) (renamed_test names t) ≡ known_in_arm (bare k) t
    other : kinds_next k (jump_of (renamed_test names t) 0) ≡ kinds_next k (jump_of t 0)

  same_test : (t : Test) (k : Kinds) → SameTest t k
  same_test (test.NotCovered n) k = record { jump = refl; carries = refl; arm = refl; other = refl }
  same_test _ k = record { jump = refl; carries = refl; arm = refl; other = refl }

  if_fine : (t : Test) (a b : Tree) → StaysFine a → StaysFine b → StaysFine (If t a b)
  if_fine t a b fine_a fine_b k h =
      let same = same_test t k in
      let joined = at_join (bare k) in
      let in_arm = known_in_arm (bare k) t in
      let in_other = kinds_next k (jump_of t 0) in
      let new_arm = known_in_arm (bare k) (renamed_test names t) in
      let new_other = kinds_next k (jump_of (renamed_test names t) 0) in
      let after_a : kinds_along new_arm (renamed names a) ≡ kinds_along in_arm a = ap (λ m. kinds_along m (renamed names a)) same.arm ∙ along a in_arm in
      let after_b : kinds_along new_other (renamed names b) ≡ kinds_along in_other b = ap (λ m. kinds_along m (renamed names b)) same.other ∙ along b in_other in
      both _ _ _ _ (λ e. ap (has_needs y k) same.jump ∙ needs k (jump_of t 0) e)
      (both _ _ _ _ (λ e. ap (λ m. implies m new_arm) same.carries ∙ ap (implies (carried k (jump_of t 0))) same.arm ∙ e)
      (both _ _ _ _ (λ e. ap (λ m. is_fine y m (renamed names b)) same.other ∙ fine_b in_other e)
      (both _ _ _ _ (λ e. ap (λ m. has_needs y m (op.Jmp 0)) after_b ∙ e)
      (both _ _ _ _ (λ e. ap (λ m. implies (carried m (op.Jmp 0)) joined) after_b ∙ e)
      (both _ _ _ _ (λ e. ap (λ m. has_needs y m (op.At m)) same.arm ∙ e)
      (both _ _ _ _ (λ e. ap (λ m. is_fine y m (renamed names a)) same.arm ∙ fine_a in_arm e) (both _ _ _ _ (λ e. ap (λ m. implies m joined) after_a ∙ e) (λ e. e)))))))) h

  -- what the jumps of a loop need
  first_needs : (over : Cursor) (k : Kinds) → has_needs y k (to_first over 0) ≡ has_needs x k (to_first over 0)
  first_needs cursor.Party k = refl
  first_needs _ k = refl

  next_needs : (over : Cursor) (k : Kinds) → has_needs y k (to_next over 0) ≡ has_needs x k (to_next over 0)
  next_needs cursor.Party k = refl
  next_needs _ k = refl

  each_fine : (over : Cursor) (a : Tree) → StaysFine a → StaysFine (Each over a)
  each_fine over a fine_a k h =
      let here = known_in_turn (bare k) over in
      let joined = known_after_loop (bare k) over in
      let after = along a here in
      both _ _ _ _ (λ e. first_needs over k ∙ e)
      (kept (implies (carried k (to_first over 0)) joined) _ _
      (kept (implies (kinds_next k (to_first over 0)) here) _ _
      (kept (has_needs x here (op.At here)) _ _
      (both _ _ _ _ (fine_a here)
      (both _ _ _ _ (λ e. ap (λ m. has_needs y m (to_next over 0)) after ∙ next_needs over (kinds_along here a) ∙ e)
      (both _ _ _ _ (λ e. ap (λ m. implies (carried m (to_next over 0)) here) after ∙ e)
      (both _ _ _ _ (λ e. ap (λ m. implies (kinds_next m (to_next over 0)) joined) after ∙ e) (λ e. e)))))))) h

  times_fine : (r : ℕ) (m : Bound) (a : Tree) → StaysFine a → StaysFine (Times r m a)
  times_fine r m a fine_a k h =
      let head = at_join (bare k) in
      let turn = kinds_in_turn head r in
      let tested = kinds_next head (op.Jz r 0) in
      let after = along a turn in
      kept (implies k head) _ _
      (kept (has_needs x head (op.At head)) _ _
      (kept (has_needs x head (op.Jz r 0)) _ _
      (kept (implies (carried head (op.Jz r 0)) head) _ _
      (kept (has_needs x tested (op.Set ones 1)) _ _
      (kept (has_needs x (kinds_next tested (op.Set ones 1)) (op.Sub r ones)) _ _
      (both _ _ _ _ (fine_a turn)
      (both _ _ _ _ (λ e. ap (λ n. has_needs y n (op.Jmp 0)) after ∙ e) (λ e. ap (λ n. implies (carried n (op.Jmp 0)) head) after ∙ e)))))))) h

  stays_fine : (tree : Tree) → StaysFine tree
  stays_fine (Line is) k h = line_fine is k h
  stays_fine (Stop i) k h = stop_fine i k h
  stays_fine (Then a b) k h =
      both _ _ _ _ (stays_fine a k) (λ e. ap (λ m. is_fine y m (renamed names b)) (along a k) ∙ stays_fine b (kinds_along k a) e) h
  stays_fine (If t a b) k h = if_fine t a b (stays_fine a) (stays_fine b) k h
  stays_fine (Each over a) k h = each_fine over a (stays_fine a) k h
  stays_fine (Times r m a) k h = times_fine r m a (stays_fine a) k h

-- a plan that is fine is so under the new names
pub renamed_is_fine : (names : Renaming) (x y : Context) → Renames names x y → (k : Kinds) (tree : Tree) → is_fine x k tree ≡ true → is_fine y k (renamed names tree) ≡ true
renamed_is_fine names x y w k tree h = stays_fine names x y w tree k h
