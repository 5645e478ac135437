-- What a code has for the blocks of an expression and of the last clause, where it has the slots of a book.
use Rattle.std.proofs.Common.{◌≡◌, ℕ, ◌+◌, ◌<◌, ◌≤◌, ◌||◌, Bool, true, false, cond, not, List, [], ◌∷◌, length, Option, None, Some, slice_get, refl, sym, ap, subst, ◌∙◌, arith}
use Rattle.std.specs.Prelude.{find, position, unwrap_or}
use Rattle.std.specs.List.{list_any, position_or_len}
use Rattle.std.proofs.lemmas.Bool.{and_parts, false≢true, lt-ltb}
use Rattle.std.proofs.lemmas.List.Folds.{find_at}
use Rattle.sl_law_meaning.specs.declared.fact.Fact.TheVariants as facts
use Rattle.sl_law_meaning.specs.declared.book.Axis.{Axis}
use Rattle.sl_law_meaning.specs.declared.book.Base.{Base}
use Rattle.sl_law_meaning.specs.declared.book.Base.TheVariants as base
use Rattle.sl_law_meaning.specs.declared.book.ColumnType.{ColumnType}
use Rattle.sl_law_meaning.specs.declared.book.Pairing.{Pairing}
use Rattle.sl_base_terms.specs.declared.shape.Shape.{Shape}
use Rattle.sl_base_terms.specs.declared.shape.Shape.TheVariants as shape
use Rattle.sl_law_meaning.specs.declared.limits.TheConstants.{MAX_DEPTH}
use Rattle.sl_base_terms.specs.Tests.{first_failing}
use Rattle.sl_law_meaning.specs.book.Trees.{ExprTree, name}
use Rattle.sl_law_meaning.specs.book.Typing.{Column, is_named, type_or_one, type_of, shape_over, base_tests}
use Rattle.sl_base_terms.specs.Shapes.{same_shape}
use Rattle.sl_base_terms.proofs.Shapes.{same_shape_is}
use Rattle.sl_base_terms.proofs.Tests.{head_holds}
use Rattle.sl_code_instructions.specs.declared.instr.Instr.{Instr}
use Rattle.sl_code_instructions.specs.Codes.{CountingCode}
use Rattle.sl_compile_pieces.specs.columns.Trees.{pair_tree, sum_tree}
use Rattle.sl_compile_pieces.specs.exprs.Slots.{passing, StandsOn, stage_slot, HasBookSlots}
use Rattle.sl_compile_pieces.proofs.exprs.Places.{stands_there}
use Rattle.sl_compile_pieces.specs.closing.Trees.{base_slot}
use Rattle.sl_blocks.specs.PlanBlocks.{AreBlocks, HasCopy, HasPair, HasSum}
use Rattle.sl_compile.specs.Codes.{HasSoFar}
use Rattle.sl_compile.proofs.rulebooks.Rows.{blocks_in}
use Rattle.sl_compile.proofs.rulebooks.Slots.{has_book_slots, has_none}
use Rattle.sl_compile.specs.inner.Earlier.{Fits}
use Rattle.sl_compile.proofs.Arms.{summed_is}

-- the slots of no stage, and fewer stages
pub fewer : (types : List Column) (n m : ℕ) → m ≤ n → (code : CountingCode) → HasSoFar types n code → HasSoFar [] m code
fewer types n m less code has = record { slots = has_none types code has.slots; stages = let many = has.stages in omega (arith, less, many) }

-- ---- names

-- the first element that passes, and that it has a place
first_of : {X : Type 0} (p : X → Bool) (xs : List X) → list_any p xs ≡ true → (x : X) × (find p xs ≡ Some x) × (position_or_len p xs < length xs)
first_of p [] h = absurd (false≢true h)
first_of {X} p (x ∷ xs) h = by (p x) (first_of p xs) h
  where
    by : (b : Bool) → (list_any p xs ≡ true → (y : X) × (find p xs ≡ Some y) × (position_or_len p xs < length xs)) → (b || list_any p xs) ≡ true
        → (y : X) × (cond b (Some x) (find p xs) ≡ Some y) × (cond (not b) (1 + position_or_len p xs) 0 < length (x ∷ xs))
    by true rest k = (x, refl, omega arith)
    by false rest k = let r = rest k in let less = r.2 in (r.0, r.1, omega (arith, less))

-- the column of a stage that is there is in its slot
named_slot : (code : CountingCode) (types : List Column) (n : List ℕ) → HasBookSlots code types → list_any (is_named n) types ≡ true
    → slice_get code.slots (stage_slot (unwrap_or (position (is_named n) types) 0)) ≡ Some (type_or_one (find (is_named n) types)).shape
named_slot code types n slots there =
    let at : ℕ = position_or_len (is_named n) types in
    let h = first_of (is_named n) types there in
    let placed : unwrap_or (position (is_named n) types) 0 ≡ at = ap (λ (b : Bool). unwrap_or (cond b (Some at) None) 0) (lt-ltb at (length types) h.2) in
    let shaped : h.0.type.shape ≡ (type_or_one (find (is_named n) types)).shape = ap (λ (o : Option Column). (type_or_one o).shape) (sym h.1) in
    ap (λ k. slice_get code.slots (stage_slot k)) placed ∙ slots.stages_are at h.0 (sym (find_at (is_named n) types) ∙ h.1) ∙ ap Some shaped

-- the column of the name that an expression is
pub name_there : (types : List Column) (level : ℕ) {x : ExprTree} {at : ℕ} {n : List ℕ} → x ≡ name at n → Fits types level x → (code : CountingCode) → HasBookSlots code types
    → slice_get code.slots (stage_slot (unwrap_or (position (is_named n) types) 0)) ≡ Some (type_or_one (find (is_named n) types)).shape
name_there types level {x} {at} {n} is fits code slots =
    named_slot code types n slots (head_holds _ _ _ (subst (λ (z : ExprTree). Fits types level z) is fits).typed).0

-- the base column is one of lists
pub base_there : (code : CountingCode) (types : List Column) (at : ℕ) (b : Base) → HasBookSlots code types → first_failing (base_tests types at b) ≡ None
    → slice_get code.slots (base_slot types b) ≡ Some shape.List
base_there code types at base.Winners slots pass = slots.facts.facts facts.Winners
base_there code types at (base.Stage n) slots pass =
    let named = head_holds _ _ _ pass in
    let typed = head_holds _ _ _ named.1 in
    let x = type_of types (name at n) in
    let list = same_shape_is x.shape shape.List (and_parts (same_shape x.shape shape.List) _ typed.0).0 in
    named_slot code types n slots named.0 ∙ ap Some list

-- ---- columns

-- a copy into a scratch column, of a column that is there
pub copy_there : (types : List Column) (n level : ℕ) {of t : ColumnType} {from slot : ℕ} → of ≡ t → from ≡ slot → level ≤ MAX_DEPTH
    → ((code : CountingCode) → HasBookSlots code types → slice_get code.slots slot ≡ Some t.shape) → (code : CountingCode) → HasSoFar types n code
    → HasCopy of.shape from (passing level of.shape) code
copy_there types n level {of} {t} {from} {slot} of_is from_is low there code has =
    let slots = has_book_slots types code has.slots in
    record {
      from_there = ap (slice_get code.slots) from_is ∙ there code slots ∙ ap (λ (u : ColumnType). Some u.shape) (sym of_is);
      to_there = slots.passing_are level of.shape low;
    }

module _ (level : ℕ) {x y : List Instr} where
  -- a sum of an argument
  pub sum_stands : (over : Axis) (s : Shape) {from to : ℕ} → level ≤ MAX_DEPTH → StandsOn level s from → to ≡ passing level (shape_over over)
      → AreBlocks (HasSum over s from to) (sum_tree over s from to ∷ []) x y
      → AreBlocks (HasSoFar [] 0) (sum_tree over s from (passing level (shape_over over)) ∷ []) x y
  sum_stands over s {from} {to} low on to_is h =
      let there : (code : CountingCode) → HasSoFar [] 0 code → HasSum over s from to code =
      λ code has.
      let slots = has_book_slots [] code has.slots in
      record {
        from_there = stands_there code [] slots level s from low on;
        to_there = ap (slice_get code.slots) to_is ∙ slots.passing_are level (shape_over over) low ∙ ap Some (summed_is over);
      } in
      subst (λ (n : ℕ). AreBlocks (HasSoFar [] 0) (sum_tree over s from n ∷ []) x y) to_is (blocks_in there h)

  -- a pair of arguments
  pub pair_stands : (pairing : Pairing) (s : Shape) {left right to : ℕ} → level + 1 ≤ MAX_DEPTH → StandsOn level s left → StandsOn (level + 1) s right → to ≡ passing level s
      → AreBlocks (HasPair s left right to) (pair_tree pairing s left right to ∷ []) x y
      → AreBlocks (HasSoFar [] 0) (pair_tree pairing s left right (passing level s) ∷ []) x y
  pair_stands pairing s {left} {right} {to} low left_on right_on to_is h =
      let there : (code : CountingCode) → HasSoFar [] 0 code → HasPair s left right to code =
      λ code has.
      let slots = has_book_slots [] code has.slots in
      record {
        left_there = stands_there code [] slots level s left (omega (arith, low)) left_on;
        right_there = stands_there code [] slots (level + 1) s right low right_on;
        to_there = ap (slice_get code.slots) to_is ∙ slots.passing_are level s (omega (arith, low));
      } in
      subst (λ (n : ℕ). AreBlocks (HasSoFar [] 0) (pair_tree pairing s left right n ∷ []) x y) to_is (blocks_in there h)
