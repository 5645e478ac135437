-- The levels of an expression's arguments, and what its tests say of their types.
use Rattle.std.proofs.Common.{◌≡◌, ℕ, ◌+◌, ◌≤◌, max, true, None, Some, List, refl, sym, ap, subst, arith}
use Rattle.sl_base_quotients.specs.declared.limits.TheConstants.{MAX_SEATS}
use Rattle.sl_base_quotients.specs.declared.method.Divisor.{Divisor}
use Rattle.sl_base_quotients.specs.declared.method.Method.{Method}
use Rattle.sl_base_quotients.specs.declared.method.Method.TheVariants as by
use Rattle.sl_law_meaning.specs.declared.book.Majority.{Majority}
use Rattle.sl_law_meaning.specs.declared.book.Number.{Number}
use Rattle.sl_base_terms.specs.declared.shape.Shape.TheVariants as shape
use Rattle.sl_law_meaning.specs.declared.book.Unit.TheVariants as unit
use Rattle.sl_law_meaning.specs.declared.book.ColumnType.{ColumnType}
use Rattle.sl_law_meaning.specs.declared.limits.TheConstants.{MAX_DEPTH}
use Rattle.sl_base_terms.specs.Tests.{first_failing}
use Rattle.sl_law_meaning.specs.book.Trees.{ExprTree, fact, split, without}
use Rattle.sl_law_meaning.specs.book.Limits.{depth_of}
use Rattle.sl_law_meaning.specs.book.Typing.{splits_in, column, can_split, pair_tests, split_tests, split_from_tests, grow_tests}
use Rattle.sl_law_meaning.specs.laws.OneLaws.{FitsMethod}
use Rattle.sl_law_meaning.proofs.typing.TestLists.{hold_all, splits_can}
use Rattle.sl_law_meaning.proofs.typing.NodeLaws.{pair_has, split_from_has, grow_has}
use Rattle.sl_compile_pieces.specs.declared.slots.TheConstants.{LEVELS}

-- ---- levels

some_depth : (x : ExprTree) → 1 ≤ depth_of x
some_depth (fact at told) = omega arith
some_depth (split at s v method without majority) = omega arith
some_depth _ = omega arith

pub low_level : (x : ExprTree) (level : ℕ) → level + depth_of x + splits_in x ≤ LEVELS → level ≤ MAX_DEPTH
low_level x level within = let deep = some_depth x in omega (arith, deep, within)

pub one_level : (level d n : ℕ) → level + (1 + d) + n ≤ LEVELS → level + d + n ≤ LEVELS
one_level level d n within = omega (arith, within)

pub two_levels : (level d k n m : ℕ) → level + (1 + max d k) + (n + m) ≤ LEVELS → (level + d + n ≤ LEVELS) × (level + 1 + k + m ≤ LEVELS)
two_levels level d k n m within = (omega (arith, within), omega (arith, within))

pub split_levels : (level d k n m : ℕ) → level + (1 + max d k) + (1 + n + m) ≤ LEVELS → (level + d + n ≤ LEVELS) × (level + 1 + k + m ≤ LEVELS)
split_levels level d k n m within = (omega (arith, within), omega (arith, within))

-- the third argument's level is paid by the split itself
pub three_levels : (level d k l n m o : ℕ) → level + (1 + max (max d k) l) + (1 + n + m + o) ≤ LEVELS
    → (level + d + n ≤ LEVELS) × (level + 1 + k + m ≤ LEVELS) × (level + 2 + l + o ≤ LEVELS)
three_levels level d k l n m o within = (omega (arith, within), omega (arith, within), omega (arith, within))

-- ---- tests

shape_is : (t u : ColumnType) → t ≡ u → t.shape ≡ u.shape
shape_is t u same = ap (λ (x : ColumnType). x.shape) same

pub pair_passes : (at : ℕ) (l r : ColumnType) → first_failing (pair_tests at l r) ≡ None → r.shape ≡ l.shape
pair_passes at l r pass = shape_is r l (pair_has at l r pass)

pub split_passes : (at : ℕ) (s v : ColumnType) (method : Method) (m : Majority) → first_failing (split_tests at s v method m) ≡ None → can_split s.shape v.shape ≡ true
split_passes at s v method m pass = (hold_all (split_tests at s v method m) pass).1.0

-- seats can be split by those votes, with those minima, by a divisor method
pub record Shares (s v f : ColumnType) (method : Method) : Type 0 where
  pub can : can_split s.shape v.shape ≡ true
  pub same : f.shape ≡ v.shape
  pub divisor : Divisor
  pub by_it : method ≡ by.Divisor divisor

pub split_from_passes : (at : ℕ) (s v f : ColumnType) (method : Method) (m : Majority) → first_failing (split_from_tests at s v f method m) ≡ None → Shares s v f method
split_from_passes at s v f method m pass =
    let h = split_from_has at s v f (column v.shape unit.Seats) method m pass refl in
    record { can = splits_can s.shape v.shape h.splits; same = shape_is f (column v.shape unit.Seats) h.minima; divisor = h.divisor; by_it = h.by }

pub fits_minima : (s v f : ColumnType) (method : Method) (minima : List ℕ) → Shares s v f method → FitsMethod method (Some minima)
fits_minima s v f method minima h = subst (λ way. FitsMethod way (Some minima)) (sym h.by_it) tt

-- one number of seats grows so, up to a limit
pub record Grows (s v f : ColumnType) (method : Method) (limit : ℕ) : Type 0 where
  pub shares : Shares s v f method
  pub one : s.shape ≡ shape.One
  pub small : limit ≤ MAX_SEATS

pub grow_passes : (at : ℕ) (s v f : ColumnType) (method : Method) (limit : Number) (m : Majority) → first_failing (grow_tests at s v f method limit m) ≡ None
    → Grows s v f method limit.value
grow_passes at s v f method limit m pass =
    let h = grow_has at s v f (column v.shape unit.Seats) method limit m pass refl in
    let one : s.shape ≡ shape.One = shape_is s (column shape.One unit.Seats) h.0.seats in
    let can : can_split s.shape v.shape ≡ true = subst (λ x. can_split x v.shape ≡ true) (sym one) (splits_can shape.One v.shape h.0.splits) in
    record {
      shares = record { can = can; same = shape_is f (column v.shape unit.Seats) h.0.minima; divisor = h.0.divisor; by_it = h.0.by };
      one = one;
      small = h.2;
    }

pub no_hamilton : (s v f : ColumnType) (limit : ℕ) → Grows s v f by.Hamilton limit → ⊥
no_hamilton s v f limit h = of h.shares.divisor h.shares.by_it where
  of : (d : Divisor) → by.Hamilton ≡ by.Divisor d → ⊥
  of d is = cc
