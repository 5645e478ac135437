-- Pieces of code: one after another, and in a code.
use Rattle.std.proofs.Common.{◌≡◌, ℕ, suc, ◌+◌, ◌-◌, ◌≤◌, Bool, true, false, ◌&&◌, ◌||◌, ◌==◌, List, [], ◌∷◌, ◌++◌, append_assoc, Option, Some, None, is_some, length, refl, ◌∙◌, sym, ap, arith}
use Rattle.std.specs.Prelude.{slice_get, IsTrue, nat_le, nat_lt, option_and_then, if◌then◌else◌}
use Rattle.std.specs.Option.{option_map_or}
use Rattle.std.specs.Int.Bits.{and_zero_r}
use Rattle.std.proofs.Math.Bool.{or-true}
use Rattle.std.proofs.lemmas.Bool.{and_parts, ltb-true, lt-ltb, leb-true, le-leb, eq-eqb}
use Rattle.std.proofs.lemmas.Option.{option_and_then_some}
use Rattle.sl_base_terms.specs.declared.shape.Shape.{Shape}
use Rattle.sl_base_terms.specs.declared.shape.Shape.TheVariants as shape
use Rattle.sl_base_terms.specs.Shapes.{same_shape}
use Rattle.sl_code_instructions.specs.Codes.{CountingCode}
use Rattle.sl_code_instructions.specs.Rows.{target_of}
use Rattle.sl_code_instructions.specs.Standing.{HasAt}
use Rattle.sl_code_instructions.proofs.Standing.{stands_each}
use Rattle.sl_code_instructions.specs.declared.instr.Instr.{Instr}
use Rattle.sl_code_instructions.specs.declared.instr.Instr.TheVariants as op
use Rattle.sl_code_instructions.specs.declared.kinds.Kinds.{Kinds}
use Rattle.sl_code_instructions.specs.declared.kinds.TableState.{TableState}
use Rattle.sl_code_semantics.specs.declared.known.TheConstants.{LAST_CLAUSE}
use Rattle.sl_code_semantics.specs.Kinds.{start_kinds, no_cursors, contains, covers, includes, implies}
use Rattle.sl_code_semantics.specs.Needs.{Context, has_slot, has_column, has_stage, has_registers, has_columns, has_kinds, has_table, has_needs, input_shape, shape_cursors, needed_positive, needed_cursors}
use Rattle.sl_code_semantics.specs.Leaves.{carried}
use Rattle.sl_code_semantics.specs.WellKinded.{declared_by, declared_at, context_of, leads_well}
use Rattle.sl_code_semantics.specs.Pieces.{kinds_here, comes_next, comes_after, meets, has_own, is_passed, are_passed, declared_in, piece_context, IsWithin}
use Rattle.sl_code_semantics.specs.Faults.{instr_tests, pass_tests}
use Rattle.sl_code_semantics.proofs.kinds.Passing.{both_hold}

-- ---- one after another

pub comes_in_row : (comes : Option Kinds) (a b : List Instr) → comes_after comes (a ++ b) ≡ comes_after (comes_after comes a) b
comes_in_row comes [] b = refl
comes_in_row comes (i ∷ a) b = comes_in_row (comes_next comes i) a b

and_in_row : (a b c d : Bool) → b ≡ (c && d) → (a && b) ≡ ((a && c) && d)
and_in_row true b c d e = e
and_in_row false b c d e = refl

pub passed_in_row : (x : Context) (comes : Option Kinds) (a b : List Instr) → are_passed x comes (a ++ b) ≡ (are_passed x comes a && are_passed x (comes_after comes a) b)
passed_in_row x comes [] b = refl
passed_in_row x comes (i ∷ a) b = and_in_row (is_passed x comes i) _ _ _ (passed_in_row x (comes_next comes i) a b)

pub tests_in_row : (code : CountingCode) (p : ℕ) (comes : Option Kinds) (a b : List Instr)
    → pass_tests code p comes (a ++ b) ≡ pass_tests code p comes a ++ pass_tests code (p + length a) (comes_after comes a) b
tests_in_row code p comes [] b = ap (λ q. pass_tests code q comes b) (omega arith)
tests_in_row code p comes (i ∷ a) b =
    let next : suc p + length a ≡ p + length (i ∷ a) = omega arith in
    let after = comes_after (comes_next comes i) a in
    ap (λ ts. instr_tests code p comes i ++ ts) (tests_in_row code (suc p) (comes_next comes i) a b)
    ∙ sym (append_assoc (instr_tests code p comes i) (pass_tests code (suc p) (comes_next comes i) a) (pass_tests code (suc p + length a) after b))
    ∙ ap (λ q. (instr_tests code p comes i ++ pass_tests code (suc p) (comes_next comes i) a) ++ pass_tests code q after b) next

-- ---- one context within another

module _ (x y : Context) (w : IsWithin x y) where
  same_slot : (k : ℕ) → IsTrue (is_some (x.slots k)) → x.slots k ≡ y.slots k
  same_slot k = by_case (x.slots k) refl
    where
      by_case : (o : Option Shape) → x.slots k ≡ o → IsTrue (is_some o) → x.slots k ≡ y.slots k
      by_case None e h = cc
      by_case (Some s) e h = e ∙ sym (w.slots k s e)

  slot_within : (k : ℕ) → IsTrue (has_slot x k) → IsTrue (has_slot y k)
  slot_within k h = ap is_some (sym (same_slot k h)) ∙ h

  column_within : (k : ℕ) (s : Shape) → IsTrue (has_column x k s) → IsTrue (has_column y k s)
  column_within k s h = ap (λ o. option_map_or (same_shape s) o false) (sym (same_slot k (is_there (x.slots k) h))) ∙ h
    where
      is_there : (o : Option Shape) → IsTrue (option_map_or (same_shape s) o false) → IsTrue (is_some o)
      is_there None e = cc
      is_there (Some t) e = refl

  stage_within : (n : ℕ) → IsTrue (has_stage x n) → IsTrue (has_stage y n)
  stage_within n = elim (n == LAST_CLAUSE) as (λ b. IsTrue (b || nat_lt n x.stages) → IsTrue (b || nat_lt n y.stages))
      [ true ↦ λ h. refl | false ↦ λ h. lt-ltb n y.stages (omega (arith, ltb-true n x.stages h, w.stages)) ]

  columns_within : (i : Instr) → IsTrue (has_columns x i) → IsTrue (has_columns y i)
  columns_within (op.Get r k) h = slot_within k h
  columns_within (op.Store k r) h = slot_within k h
  columns_within (op.Zero k) h = slot_within k h
  columns_within (op.Input k c) h = column_within k (input_shape c) h
  columns_within (op.Halt k) h = column_within k shape.List h
  columns_within (op.Haltv k v) h =
      let both = and_parts (has_column x k shape.List) (has_column x v shape.List) h in
      both_hold _ _ (column_within k shape.List both.0) (column_within v shape.List both.1)
  columns_within (op.Lot n t) h = stage_within n h
  columns_within (op.Takelot n) h = stage_within n h
  columns_within (op.Emit n c r s) h = stage_within n h
  columns_within (op.Given n c r) h = stage_within n h
  columns_within (op.Fault n c f) h = stage_within n h
  columns_within (op.Tie n c r) h = stage_within n h
  columns_within (op.Weigh n c m r) h = stage_within n h
  columns_within _ h = refl

  same_cursors : (t : Option TableState) (i : Instr) → IsTrue (has_columns x i) → needed_cursors x t i ≡ needed_cursors y t i
  same_cursors t (op.Get r k) h = ap (λ o. option_map_or shape_cursors o no_cursors) (same_slot k h)
  same_cursors t (op.Store k r) h = ap (λ o. option_map_or shape_cursors o no_cursors) (same_slot k h)
  same_cursors t _ h = refl

  needs_within : (k : Kinds) (i : Instr) → IsTrue (has_needs x k i) → IsTrue (has_needs y k i)
  needs_within k i h =
      let most = and_parts (has_registers i && has_columns x i && has_kinds x k i) (has_table k i) h in
      let more = and_parts (has_registers i && has_columns x i) (has_kinds x k i) most.0 in
      let some = and_parts (has_registers i) (has_columns x i) more.0 in
      let kinds : IsTrue (has_kinds y k i) = ap (λ cursors. option_map_or (contains k.positive) (needed_positive i) true && covers k.cursors cursors) (sym (same_cursors k.table i some.1)) ∙ more.1 in
      both_hold _ _ (both_hold _ _ (both_hold _ _ some.0 (columns_within i some.1)) kinds) most.1

  leads_within : (k : Kinds) (t : Option ℕ) → IsTrue (leads_well x k t) → IsTrue (leads_well y k t)
  leads_within k None h = refl
  leads_within k (Some t) h = by_case (x.declared t) refl h
    where
      by_case : (o : Option Kinds) → x.declared t ≡ o → IsTrue (option_map_or (implies k) o false) → IsTrue (option_map_or (implies k) (y.declared t) false)
      by_case None e h = cc
      by_case (Some d) e h = ap (λ o. option_map_or (implies k) o false) (w.declared t d e) ∙ h

  one_within : (comes : Option Kinds) (i : Instr) → IsTrue (is_passed x comes i) → IsTrue (is_passed y comes i)
  one_within comes i h =
      let k = kinds_here comes (declared_by i) in
      let parts = and_parts (meets comes (declared_by i)) (has_own x k i) h in
      let own = and_parts (has_needs x k i) (leads_well x (carried k i) (target_of i)) parts.1 in
      both_hold _ _ parts.0 (both_hold _ _ (needs_within k i own.0) (leads_within (carried k i) (target_of i) own.1))

  all_within : (comes : Option Kinds) (is : List Instr) → IsTrue (are_passed x comes is) → IsTrue (are_passed y comes is)
  all_within comes [] h = refl
  all_within comes (i ∷ is) h =
      let parts = and_parts (is_passed x comes i) (are_passed x (comes_next comes i) is) h in
      both_hold _ _ (one_within comes i parts.0) (all_within (comes_next comes i) is parts.1)

pub passed_within : (x y : Context) (comes : Option Kinds) (is : List Instr) → IsWithin x y → IsTrue (are_passed x comes is) → IsTrue (are_passed y comes is)
passed_within x y comes is w = all_within x y w comes is

-- ---- a piece in a code

-- what a piece declares, by how far from its first place
pub declared_from_first : (at n : ℕ) (is : List Instr) → declared_in at is (at + n) ≡ option_and_then declared_by (slice_get is n)
declared_from_first at n is =
    let within : nat_le at (at + n) ≡ true = le-leb at (at + n) (omega arith) in
    let far : (at + n) - at ≡ n = omega arith in
    rw (within, far) refl

module _ (code : CountingCode) (at : ℕ) (is : List Instr) (stand : HasAt code at is) where
  declared_there : (t : ℕ) (d : Kinds) → option_and_then declared_by (slice_get is (t - at)) ≡ Some d → at ≤ t → declared_at code t ≡ Some d
  declared_there t d e le =
      option_and_then_some declared_by (slice_get is (t - at)) d e (λ i here declares.
      let place : at + (t - at) ≡ t = omega (arith, le) in
      let there : slice_get code.instrs t ≡ Some i = ap (slice_get code.instrs) (sym place) ∙ stands_each code at is (t - at) i stand here in
      ap (option_and_then declared_by) there ∙ declares)

  declared_within : (t : ℕ) (d : Kinds) → declared_in at is t ≡ Some d → declared_at code t ≡ Some d
  declared_within t d = by_case (nat_le at t) refl
    where
      by_case : (b : Bool) → nat_le at t ≡ b → (if b then option_and_then declared_by (slice_get is (t - at)) else None) ≡ Some d → declared_at code t ≡ Some d
      by_case true e h = declared_there t d h (leb-true at t e)
      by_case false e h = cc

pub piece_within : (code : CountingCode) (at : ℕ) (is : List Instr) (slots : ℕ → Option Shape) (stages : ℕ) → HasAt code at is
    → ((k : ℕ) (s : Shape) → slots k ≡ Some s → slice_get code.slots k ≡ Some s) → stages ≤ length code.stages
    → IsWithin (piece_context slots stages at is) (context_of code)
piece_within code at is slots stages stand are le = record { slots = are; stages = le; declared = declared_within code at is stand }

-- ---- nothing is asked

pub nothing_asked : (k : Kinds) → IsTrue (implies k start_kinds)
nothing_asked k =
    let registers : IsTrue (includes k.positive start_kinds.positive) = eq-eqb _ _ (and_zero_r k.positive.mask) in
    let cursors : IsTrue (covers k.cursors no_cursors) = both_hold _ _ (both_hold _ _ (or-true k.cursors.party) (or-true k.cursors.land)) (or-true k.cursors.win) in
    both_hold _ _ (both_hold _ _ registers cursors) refl
