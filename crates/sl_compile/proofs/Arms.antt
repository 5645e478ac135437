-- The arms of an expression: its tree over those of its parts, and what is so of its arguments.
use Rattle.std.proofs.Common.{◌≡◌, ℕ, ◌+◌, ◌*◌, ◌<◌, max, true, List, [], ◌∷◌, ◌++◌, Result, IfOk, refl, ap, ◌∙◌, sym, subst, arith}
use Rattle.std.specs.Global.{Box}
use Rattle.sl_law_meaning.specs.declared.book.Pairing.{Pairing}
use Rattle.sl_law_meaning.specs.declared.book.Axis.{Axis}
use Rattle.sl_law_meaning.specs.declared.book.Axis.TheVariants as axis
use Rattle.sl_base_terms.specs.declared.shape.Shape.{Shape}
use Rattle.sl_law_meaning.specs.declared.book.ColumnType.{ColumnType}
use Rattle.sl_law_meaning.specs.declared.book.Expr.{Expr, Sum, Pair}
use Rattle.sl_law_meaning.specs.book.Limits.{depth_of}
use Rattle.sl_law_meaning.specs.book.Trees.{ExprTree, tree_of, sum, pair}
use Rattle.sl_law_meaning.specs.book.Typing.{Column, column, shape_over, can_sum, type_of, expr_tests, sum_tests}
use Rattle.sl_base_terms.proofs.Tests.{pass_parts, head_holds}
use Rattle.sl_code_instructions.specs.declared.instr.Instr.{Instr}
use Rattle.sl_code_instructions.specs.Codes.{CountingCode}
use Rattle.sl_compile_plans.specs.Trees.{Tree}
use Rattle.sl_compile_pieces.specs.columns.Trees.{sum_tree, pair_tree, summed}
use Rattle.sl_compile_pieces.specs.exprs.Slots.{passing, StandsOn}
use Rattle.sl_compile_pieces.specs.exprs.Pieces.{slot_of, pieces}
use Rattle.sl_blocks.specs.PlanBlocks.{AreBlocks, HasRoom}
use Rattle.sl_compile.specs.inner.Earlier.{Fits}
use Rattle.sl_compile.proofs.Arguments.{Over, slot_on, first_room, own_room, own_blocks, has_as}
use Rattle.sl_compile.proofs.Levels.{sum_fits, pair_fits, pair_same}

-- ---- trees

pub sum_is : {e : Expr} {at : ℕ} {of : Box Expr} {over : Axis} {x : Expr} → e ≡ Sum at of over → x ≡ of.value → tree_of e ≡ sum at (tree_of x) over
sum_is {e} {at} {of} {over} is x_is = ap tree_of is ∙ ap (λ (y : Expr). sum at (tree_of y) over) (sym x_is)

pub pair_is : {e : Expr} {at : ℕ} {pairing : Pairing} {l r : Box Expr} {x y : Expr} → e ≡ Pair at pairing l r → x ≡ l.value → y ≡ r.value →
    tree_of e ≡ pair at pairing (tree_of x) (tree_of y)
pair_is is x_is y_is = rw (x_is, y_is) (ap tree_of is)

-- ---- sums

pub summed_is : (over : Axis) → shape_over over ≡ summed over
summed_is axis.Party = refl
summed_is _ = refl

module _ (types : List Column) {at : ℕ} {x y : ExprTree} {over : Axis} (is : x ≡ sum at y over) where
  pub sum_has : {E : Type 0} (r : Result ColumnType E) {of : ColumnType} → of ≡ type_of types y → IfOk r (λ has. has ≡ column (shape_over over) of.unit) → IfOk r (λ has. has ≡ type_of types x)
  sum_has r of_is h = has_as r (ap (λ (t : ColumnType). column (shape_over over) t.unit) of_is ∙ sym (ap (type_of types) is)) h

  module _ (stage level : ℕ) where
    abbrev whole : List Tree
    whole = pieces types stage level x

    abbrev first : List Tree
    first = pieces types stage level y

    pub sum_asks : {t : ℕ} (code : List Instr) → 2 * depth_of x ≡ t → Fits types level x → HasRoom whole code → (2 * depth_of y < t) × (Fits types level y × HasRoom first code)
    sum_asks code measure fits room =
        let deep : depth_of x ≡ 1 + depth_of y = ap depth_of is in (
          omega (arith, measure, deep),
          (sum_fits types level at y over (subst (λ (z : ExprTree). Fits types level z) is fits), first_room whole first _ (ap (pieces types stage level) is) code room),
        )

    module _ {of : ColumnType} {from : ℕ} (of_is : of ≡ type_of types y) (from_is : from ≡ slot_of types level y) where
      abbrev own : List Tree
      own = sum_tree over of.shape from (passing level (shape_over over)) ∷ []

      behind_one : whole ≡ first ++ own
      behind_one =
          ap (pieces types stage level) is
          ∙ ap (λ (n : ℕ). first ++ sum_tree over (type_of types y).shape n (passing level (summed over)) ∷ []) (sym from_is)
          ∙ ap (λ (t : ColumnType). first ++ sum_tree over t.shape from (passing level (summed over)) ∷ []) (sym of_is)
          ∙ ap (λ (s : Shape). first ++ sum_tree over of.shape from (passing level s) ∷ []) (sym (summed_is over))

      -- its column can be summed so
      pub sum_can : Fits types level x → can_sum of.shape over ≡ true
      sum_can fits =
          let typed = (subst (λ (z : ExprTree). Fits types level z) is fits).typed in
          ap (λ (t : ColumnType). can_sum t.shape over) of_is ∙ (head_holds _ _ _ (pass_parts (expr_tests types y) (sum_tests at (type_of types y) over) typed).1).0

      pub sum_room : {T : CountingCode → Type 0} (before after : List Instr) → HasRoom whole before → AreBlocks T first before after → HasRoom own after
      sum_room before after room there = own_room whole first own behind_one before after room there

      pub sum_blocks : {R E : Type 0} (r : Result R E) (S T : CountingCode → Type 0) → ((code : CountingCode) → T code → S code) → (before mid after : List Instr) → AreBlocks T first before mid
          → IfOk r (λ _. AreBlocks S own mid after) → IfOk r (λ _. AreBlocks T whole before after)
      sum_blocks r S T more before mid after there blocks = own_blocks whole first own behind_one before r S T more mid after there blocks

-- ---- pairs

abbrev pub own_pair : Pairing → (level left right : ℕ) → ColumnType → ColumnType → List Tree
own_pair pairing level left right of by = pair_tree pairing of.shape left right (passing level of.shape) ∷ []

pub over_pair : {types : List Column} (stage : ℕ) {level at left right : ℕ} {pairing : Pairing} {x l r : ExprTree} → x ≡ pair at pairing l r → Fits types level x →
    left ≡ slot_of types level l → right ≡ slot_of types (level + 1) r → Over types stage level x l r (λ of by. of) (own_pair pairing level left right)
over_pair {types} stage {level} {at} {left} {right} {pairing} {x} {l} {r} is fits left_is right_is =
    let deep : depth_of x ≡ 1 + max (depth_of l) (depth_of r) = ap depth_of is in
    let h = pair_fits types level at pairing l r (subst (λ (z : ExprTree). Fits types level z) is fits) in
    record { left = h.0; right = h.1; falls = omega (arith, deep); type = ap (type_of types) is; plans = ap (pieces types stage level) is ∙ rw (left_is, right_is) refl }

-- the second one stands on its level by the shape of the first
pub other_on : {types : List Column} {level at right : ℕ} {pairing : Pairing} {x l r : ExprTree} {of by : ColumnType} → x ≡ pair at pairing l r → Fits types level x →
    (of ≡ type_of types l) × (by ≡ type_of types r) → right ≡ slot_of types (level + 1) r → StandsOn (level + 1) of.shape right
other_on {types} {level} {at} {right} {pairing} {x} {l} {r} {of} {by} is fits have right_is =
    let same = pair_same types level at pairing l r (subst (λ (z : ExprTree). Fits types level z) is fits) in
    let shapes : by.shape ≡ of.shape = ap (λ (t : ColumnType). t.shape) have.1 ∙ same ∙ sym (ap (λ (t : ColumnType). t.shape) have.0) in
    subst (λ (s : Shape). StandsOn (level + 1) s right) shapes (slot_on types r have.1 right_is)
