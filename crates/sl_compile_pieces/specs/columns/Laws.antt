-- What these plans achieve: each law is the contract of a function of `laws` (docs/compiler.md, section 1).
use Rattle.std.specs.Prelude.{◌≡◌, ◌≢◌, ℕ, ◌≤◌, List, Some, All, slice_get}
use Rattle.sl_law_meaning.specs.declared.book.Axis.{Axis}
use Rattle.sl_law_meaning.specs.declared.book.Axis.TheVariants as axis
use Rattle.sl_law_meaning.specs.declared.book.Pairing.{Pairing}
use Rattle.sl_base_terms.specs.declared.shape.Shape.{Shape}
use Rattle.sl_base_terms.specs.declared.shape.Shape.TheVariants as shape
use Rattle.sl_law_meaning.specs.returns.Election.{Election}
use Rattle.sl_law_meaning.specs.meaning.Columns.{sum_over, pair_of}
use Rattle.sl_code_instructions.specs.Codes.{CountingCode}
use Rattle.sl_code_semantics.specs.State.{State}
use Rattle.sl_code_semantics.specs.Effects.{most}
use Rattle.sl_compile_plans.specs.Achieves.{Achieves, Never}
use Rattle.sl_compile_pieces.specs.columns.Columns.{HoldsColumn, GetsColumn}
use Rattle.sl_compile_pieces.specs.columns.Trees.{copy_tree, pair_tree, sum_tree, summed}

abbrev pub ColumnsAreCopied : Type 0
ColumnsAreCopied =
    (c : CountingCode) (e : Election) (s : Shape) (from to : ℕ) (values : List ℕ) (state : State) → slice_get c.slots from ≡ Some s → slice_get c.slots to ≡ Some s →
    from ≢ to → HoldsColumn e s (state.columns from) values →
    Achieves c e (copy_tree s from to) state (GetsColumn e s to values state) Never

-- into the column of the first, or another one, but not that of the second
abbrev pub PairsAreTaken : Type 0
PairsAreTaken =
    (c : CountingCode) (e : Election) (pairing : Pairing) (s : Shape) (left right to : ℕ) (xs ys : List ℕ) (state : State) → slice_get c.slots left ≡ Some s →
    slice_get c.slots right ≡ Some s → slice_get c.slots to ≡ Some s → right ≢ to → HoldsColumn e s (state.columns left) xs →
    HoldsColumn e s (state.columns right) ys →
    Achieves c e (pair_tree pairing s left right to) state (GetsColumn e s to (pair_of pairing xs ys) state) Never

-- a sum by party or by Land is of a list column
abbrev pub FitsAxis : Axis → Shape → Type 0
FitsAxis axis.All s = Unit {0}
FitsAxis axis.Party s = s ≡ shape.List
FitsAxis axis.Land s = s ≡ shape.List

-- where a register holds each of the sums
abbrev pub SumsAreTaken : Type 0
SumsAreTaken =
    (c : CountingCode) (e : Election) (over : Axis) (s : Shape) (from to : ℕ) (xs : List ℕ) (state : State) → FitsAxis over s → slice_get c.slots from ≡ Some s →
    slice_get c.slots to ≡ Some (summed over) → HoldsColumn e s (state.columns from) xs → All (λ n. n ≤ most) (sum_over e over xs) →
    Achieves c e (sum_tree over s from to) state (GetsColumn e (summed over) to (sum_over e over xs) state) Never
