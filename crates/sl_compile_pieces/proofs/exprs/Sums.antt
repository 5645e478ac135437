-- Sums and pairs of columns.
use Rattle.std.proofs.Common.{◌≡◌, ℕ, ◌+◌, ◌≤◌, true, List, [], ◌∷◌, All, Some, slice_get, refl, subst, arith}
use Rattle.std.proofs.lemmas.Bool.{false≢true}
use Rattle.std.proofs.lemmas.List.Elements.{All-weaker}
use Rattle.sl_base_quotients.specs.declared.limits.TheConstants.{MAX_WEIGHT}
use Rattle.sl_law_meaning.specs.declared.book.Axis.{Axis}
use Rattle.sl_law_meaning.specs.declared.book.Axis.TheVariants as axis
use Rattle.sl_law_meaning.specs.declared.book.Pairing.{Pairing}
use Rattle.sl_base_terms.specs.declared.shape.Shape.{Shape}
use Rattle.sl_base_terms.specs.declared.shape.Shape.TheVariants as shape
use Rattle.sl_law_meaning.specs.declared.book.Unit.{Unit as Units}
use Rattle.sl_law_meaning.specs.declared.book.Unit.TheVariants as unit
use Rattle.sl_law_meaning.specs.declared.book.ColumnType.{ColumnType}
use Rattle.sl_law_meaning.specs.declared.limits.TheConstants.{MAX_DEPTH}
use Rattle.sl_law_meaning.specs.book.Typing.{column, can_sum, shape_over}
use Rattle.sl_law_meaning.specs.returns.Election.{Election}
use Rattle.sl_law_meaning.specs.meaning.Columns.{sum_over, pair_of}
use Rattle.sl_law_meaning.specs.meaning.Results.{ExprResult, plain}
use Rattle.sl_law_meaning.specs.laws.ColumnLaws.{most_of, FitsType}
use Rattle.sl_code_instructions.specs.Codes.{CountingCode}
use Rattle.sl_code_semantics.specs.State.{State}
use Rattle.sl_code_semantics.specs.Effects.{most}
use Rattle.sl_compile_pieces.specs.columns.Columns.{HoldsColumn}
use Rattle.sl_compile_pieces.specs.columns.Laws.{FitsAxis}
use Rattle.sl_compile_pieces.specs.columns.Trees.{sum_tree, pair_tree, summed}
use Rattle.sl_compile_pieces.proofs.columns.Writing.{pairs_are_taken}
use Rattle.sl_compile_pieces.proofs.columns.Sums.{sums_are_taken}
use Rattle.sl_compile_pieces.specs.nodes.Nodes.{EndsWith}
use Rattle.sl_compile_pieces.specs.exprs.Slots.{passing, StandsOn}
use Rattle.sl_compile_pieces.proofs.exprs.Following.{AllAchieve}
use Rattle.sl_compile_pieces.proofs.exprs.Places.{first_of, stages_above, stands_apart}
use Rattle.sl_compile_pieces.proofs.exprs.Arguments.{plain_all}
use Rattle.sl_compile_pieces.specs.exprs.Meaning.{ComesTo}

-- ---- numbers of columns

unit_few : (s : Shape) (u : Units) → most_of (column s u) ≤ MAX_WEIGHT
unit_few shape.One unit.Seats = omega arith
unit_few _ unit.Seats = omega arith
unit_few _ _ = omega arith

-- the numbers of a column of a type are weights
pub typed_weights : (e : Election) (t : ColumnType) (values : List ℕ) → FitsType e t values → All (λ n. n ≤ MAX_WEIGHT) values
typed_weights e t values fits = All-weaker (λ n. n ≤ most_of t) (λ n. n ≤ MAX_WEIGHT) (λ n h. let few = unit_few t.shape t.unit in omega (arith, h, few)) values fits.most

-- and a register holds each of them
pub typed_numbers : (e : Election) (t : ColumnType) (values : List ℕ) → FitsType e t values → All (λ n. n ≤ most) values
typed_numbers e t values fits = All-weaker (λ n. n ≤ MAX_WEIGHT) (λ n. n ≤ most) (λ n h. omega (arith, h)) values (typed_weights e t values fits)

-- ---- shapes of sums

fits_axis : (s : Shape) (over : Axis) → can_sum s over ≡ true → FitsAxis over s
fits_axis s axis.All can = tt
fits_axis shape.List axis.Party can = refl
fits_axis shape.List axis.Land can = refl
fits_axis _ _ can = absurd (false≢true can)

summed_is : (over : Axis) → summed over ≡ shape_over over
summed_is axis.Party = refl
summed_is _ = refl

module _ {c : CountingCode} {e : Election} (level : ℕ) (there : (s : Shape) → slice_get c.slots (passing level s) ≡ Some s) (low : level ≤ MAX_DEPTH) (s : Shape)
    (from : ℕ) (from_there : slice_get c.slots from ≡ Some s) where
  pub sum_all : (over : Axis) (xs : List ℕ) (state : State) → can_sum s over ≡ true → HoldsColumn e s (state.columns from) xs
      → All (λ n. n ≤ most) (sum_over e over xs)
      → AllAchieve c e (sum_tree over s from (passing level (summed over)) ∷ []) state
      (ComesTo e (λ r. r ≡ plain (sum_over e over xs)) (shape_over over) (passing level (shape_over over)) (first_of level) state) (EndsWith (λ r. r ≡ plain (sum_over e over xs)))
  sum_all over xs state can holds small =
      let Is : ExprResult → Type 0 = λ r. r ≡ plain (sum_over e over xs) in
      subst (λ made. AllAchieve c e (sum_tree over s from (passing level (summed over)) ∷ []) state (ComesTo e Is made (passing level made) (first_of level) state) (EndsWith Is))
      (summed_is over)
      (plain_all (omega arith) (stages_above level (summed over) low) refl
      (sums_are_taken c e over s from (passing level (summed over)) xs state (fits_axis s over can) from_there (there (summed over)) holds small))

  module _ (other : ℕ) (other_there : slice_get c.slots other ≡ Some s) (on : StandsOn (level + 1) s other) (xs ys : List ℕ) (state : State)
      (left : HoldsColumn e s (state.columns from) xs) (right : HoldsColumn e s (state.columns other) ys) where
    pub pair_all : (pairing : Pairing) → AllAchieve c e (pair_tree pairing s from other (passing level s) ∷ []) state
        (ComesTo e (λ r. r ≡ plain (pair_of pairing xs ys)) s (passing level s) (first_of level) state) (EndsWith (λ r. r ≡ plain (pair_of pairing xs ys)))
    pair_all pairing = plain_all (omega arith) (stages_above level s low) refl
        (pairs_are_taken c e pairing s from other (passing level s) xs ys state from_there other_there (there s) (stands_apart level (level + 1) s s other (omega arith) on) left right)
