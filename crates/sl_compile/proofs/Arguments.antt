-- The blocks of an expression stand where those of its arguments and then its own do.
use Rattle.std.proofs.Common.{◌≡◌, ℕ, ◌+◌, ◌*◌, ◌<◌, max, List, [], ◌∷◌, ◌++◌, Result, IfOk, sym, ap, ◌∙◌, subst, arith, append_assoc}
use Rattle.sl_law_meaning.specs.declared.book.ColumnType.{ColumnType}
use Rattle.sl_law_meaning.specs.declared.book.Expr.{Expr}
use Rattle.sl_law_meaning.specs.book.Trees.{ExprTree, tree_of}
use Rattle.sl_law_meaning.specs.book.Limits.{depth_of}
use Rattle.sl_law_meaning.specs.book.Typing.{Column, type_of}
use Rattle.sl_code_instructions.specs.declared.instr.Instr.{Instr}
use Rattle.sl_code_instructions.specs.Codes.{CountingCode}
use Rattle.sl_compile_plans.specs.Trees.{Tree}
use Rattle.sl_compile_pieces.specs.columns.Trees.{copy_tree}
use Rattle.sl_compile_pieces.specs.exprs.Slots.{passing, StandsOn}
use Rattle.sl_compile_pieces.specs.exprs.Pieces.{slot_of, pieces}
use Rattle.sl_compile_pieces.proofs.exprs.Places.{slot_stands}
use Rattle.sl_compile.proofs.rulebooks.Rows.{no_blocks}
use Rattle.sl_blocks.specs.PlanBlocks.{AreBlocks, HasRoom}
use Rattle.sl_compile.specs.inner.Earlier.{Fits}
use Rattle.sl_compile.proofs.Places.{blocks_as, blocks_behind, blocks_where, room_as, room_first, room_rest}

-- ---- plans of which some stand first

module _ (whole first own : List Tree) (is : whole ≡ first ++ own) (before : List Instr) where
  pub first_room : HasRoom whole before → HasRoom first before
  first_room room = room_first first own before (room_as (first ++ own) whole before (sym is) room)

  pub own_room : {T : CountingCode → Type 0} (after : List Instr) → HasRoom whole before → AreBlocks T first before after → HasRoom own after
  own_room after room there = room_rest first own before after (room_as (first ++ own) whole before (sym is) room) there

  pub own_blocks : {R E : Type 0} (r : Result R E) (S T : CountingCode → Type 0) → ((code : CountingCode) → T code → S code) → (mid after : List Instr) → AreBlocks T first before mid
      → IfOk r (λ _. AreBlocks S own mid after) → IfOk r (λ _. AreBlocks T whole before after)
  own_blocks r S T more mid after there blocks = blocks_as r T (first ++ own) whole before after (sym is) (blocks_behind r S T more first own before mid after there blocks)

-- what has this has that
pub has_as : {E : Type 0} (r : Result ColumnType E) {of t : ColumnType} → of ≡ t → IfOk r (λ has. has ≡ of) → IfOk r (λ has. has ≡ t)
has_as r is h = subst (λ (t : ColumnType). IfOk r (λ has. has ≡ t)) is h

-- ---- slots

-- the slot that is given for an expression is that of the same expression
pub slot_at : (types : List Column) (level slot : ℕ) (of : ColumnType) (d b : Expr) → d ≡ b → (of ≡ type_of types (tree_of d) → slot ≡ slot_of types level (tree_of d))
    → of ≡ type_of types (tree_of b) → slot ≡ slot_of types level (tree_of b)
slot_at types level slot of d b same h is =
    subst (λ (x : Expr). slot ≡ slot_of types level (tree_of x)) same (h (is ∙ ap (λ (x : Expr). type_of types (tree_of x)) (sym same)))

-- ---- no arguments: a fact stands in its slot, and a column of a stage is copied

-- no plans, no blocks
pub none_blocks : (types : List Column) (stage level : ℕ) {x y : ExprTree} → x ≡ y → pieces types stage level y ≡ [] → (T : CountingCode → Type 0) (code : List Instr)
    → AreBlocks T (pieces types stage level x) code code
none_blocks types stage level is none T code =
    subst (λ (ts : List Tree). AreBlocks T ts code code) (sym (ap (pieces types stage level) is ∙ none)) (no_blocks T code)

-- an expression's slot stands on its level
pub slot_on : (types : List Column) {level from : ℕ} (y : ExprTree) {of : ColumnType} → of ≡ type_of types y → from ≡ slot_of types level y → StandsOn level of.shape from
slot_on types {level} {from} y {of} of_is from_is =
    subst (λ (n : ℕ). StandsOn level of.shape n) (sym from_is)
    (subst (λ (t : ColumnType). StandsOn level t.shape (slot_of types level y)) (sym of_is) (slot_stands types y level))

module _ (types : List Column) {x y : ExprTree} {of : ColumnType} (is : x ≡ y) (of_is : of ≡ type_of types y) where
  pub copy_has : {E : Type 0} (r : Result ColumnType E) → IfOk r (λ has. has ≡ of) → IfOk r (λ has. has ≡ type_of types x)
  copy_has r h = has_as r (of_is ∙ ap (type_of types) (sym is)) h

  module _ (stage level : ℕ) {slot from : ℕ} (copied : pieces types stage level y ≡ copy_tree (type_of types y).shape slot (passing level (type_of types y).shape) ∷ []) (from_is : from ≡ slot) where
    abbrev own_copy : List Tree
    own_copy = copy_tree of.shape from (passing level of.shape) ∷ []

    copy_is : own_copy ≡ pieces types stage level x
    copy_is =
        ap (λ (t : ColumnType). copy_tree t.shape from (passing level t.shape) ∷ []) of_is
        ∙ ap (λ (n : ℕ). copy_tree (type_of types y).shape n (passing level (type_of types y).shape) ∷ []) from_is
        ∙ sym copied
        ∙ ap (λ (z : ExprTree). pieces types stage level z) (sym is)

    pub copy_room : (code : List Instr) → HasRoom (pieces types stage level x) code → HasRoom own_copy code
    copy_room code room = room_as own_copy (pieces types stage level x) code copy_is room

    pub copy_blocks : {R E : Type 0} (r : Result R E) (S T : CountingCode → Type 0) → ((code : CountingCode) → T code → S code) → (before after : List Instr)
        → IfOk r (λ _. AreBlocks S own_copy before after) → IfOk r (λ _. AreBlocks T (pieces types stage level x) before after)
    copy_blocks r S T more before after blocks = blocks_as r T own_copy (pieces types stage level x) before after copy_is (blocks_where r S T more own_copy before after blocks)

-- ---- two arguments, and what is by their types

-- the two fit, one a level on, and are less deep; the expression has what their types give, and after their plans stand those that their types give
pub record Over (types : List Column) (stage level : ℕ) (x l r : ExprTree) (has : ColumnType → ColumnType → ColumnType) (rest : ColumnType → ColumnType → List Tree) : Type 0 where
  pub left : Fits types level l
  pub right : Fits types (level + 1) r
  pub falls : max (depth_of l) (depth_of r) < depth_of x
  pub type : type_of types x ≡ has (type_of types l) (type_of types r)
  pub plans : pieces types stage level x ≡ pieces types stage level l ++ (pieces types stage (level + 1) r ++ rest (type_of types l) (type_of types r))

module _ {types : List Column} {stage level : ℕ} {x l r : ExprTree} {has : ColumnType → ColumnType → ColumnType} {rest : ColumnType → ColumnType → List Tree}
    (over : Over types stage level x l r has rest) where
  abbrev whole : List Tree
  whole = pieces types stage level x

  abbrev both : List Tree
  both = pieces types stage level l ++ pieces types stage (level + 1) r

  both_first : whole ≡ both ++ rest (type_of types l) (type_of types r)
  both_first = over.plans ∙ sym (append_assoc (pieces types stage level l) (pieces types stage (level + 1) r) (rest (type_of types l) (type_of types r)))

  pub both_asks : {t : ℕ} (code : List Instr) → 2 * depth_of x ≡ t → HasRoom whole code →
      (2 * max (depth_of l) (depth_of r) + 1 < t) × (Fits types level l × (Fits types (level + 1) r × HasRoom both code))
  both_asks code measure room =
      (omega (arith, measure, over.falls), (over.left, (over.right, first_room whole both (rest (type_of types l) (type_of types r)) both_first code room)))

  module _ {of by : ColumnType} (have : (of ≡ type_of types l) × (by ≡ type_of types r)) where
    behind_both : whole ≡ both ++ rest of by
    behind_both =
        both_first
        ∙ ap (λ (t : ColumnType). both ++ rest t (type_of types r)) (sym have.0)
        ∙ ap (λ (t : ColumnType). both ++ rest of t) (sym have.1)

    pub rest_room : {T : CountingCode → Type 0} (before after : List Instr) → HasRoom whole before → AreBlocks T both before after → HasRoom (rest of by) after
    rest_room before after room there = own_room whole both (rest of by) behind_both before after room there

    pub rest_blocks : {R E : Type 0} (e : Result R E) (S T : CountingCode → Type 0) → ((code : CountingCode) → T code → S code) → (before mid after : List Instr) → AreBlocks T both before mid →
        IfOk e (λ _. AreBlocks S (rest of by) mid after) → IfOk e (λ _. AreBlocks T whole before after)
    rest_blocks e S T more before mid after there blocks = own_blocks whole both (rest of by) behind_both before e S T more mid after there blocks

    pub has_both : {E : Type 0} (e : Result ColumnType E) → IfOk e (λ h. h ≡ has of by) → IfOk e (λ h. h ≡ type_of types x)
    has_both e h =
        has_as e (ap (λ (t : ColumnType). has t by) have.0 ∙ ap (λ (t : ColumnType). has (type_of types l) t) have.1 ∙ sym over.type) h

-- each of two is less than the measure of both
pub both_falls : (d k : ℕ) {t : ℕ} → 2 * max d k + 1 ≡ t → (2 * d < t) × (2 * k < t)
both_falls d k measure = (omega (arith, measure), omega (arith, measure))
