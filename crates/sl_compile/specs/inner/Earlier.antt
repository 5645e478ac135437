-- The columns that earlier stages have, and what is asked of an expression that is laid out after them.
use Rattle.std.specs.Prelude.{◌≡◌, ℕ, ◌+◌, ◌≤◌, true, List, [], ◌∷◌, None}
use Rattle.sl_base_quotients.specs.declared.method.Divisor.{Divisor}
use Rattle.sl_base_quotients.specs.declared.method.Method.{Method}
use Rattle.sl_base_quotients.specs.declared.method.Method.TheVariants as by
use Rattle.sl_base_quotients.specs.declared.limits.TheConstants.{MAX_SEATS}
use Rattle.sl_law_meaning.specs.declared.book.Stage.{Stage}
use Rattle.sl_base_terms.specs.declared.shape.Shape.TheVariants as shape
use Rattle.sl_law_meaning.specs.declared.book.ColumnType.{ColumnType}
use Rattle.sl_law_meaning.specs.book.Trees.{ExprTree}
use Rattle.sl_base_terms.specs.Tests.{first_failing}
use Rattle.sl_law_meaning.specs.book.Limits.{depth_of}
use Rattle.sl_law_meaning.specs.book.Typing.{Column, type_of, expr_tests, splits_in, can_split}
use Rattle.sl_compile_pieces.specs.declared.slots.TheConstants.{LEVELS}

-- each stage's name with its type
abbrev pub columns : List Stage → List ColumnType → List Column
columns [] ts = []
columns (s ∷ ss) [] = []
columns (s ∷ ss) (t ∷ ts) = record { name = s.name; type = t } ∷ columns ss ts

-- the tests of the expression hold, and there are levels for it
pub record Fits (types : List Column) (level : ℕ) (x : ExprTree) : Type 0 where
  pub typed : first_failing (expr_tests types x) ≡ None
  pub levels : level + depth_of x + splits_in x ≤ LEVELS

-- seats and votes of a split
pub record FitsSplit (types : List Column) (level : ℕ) (s v : ExprTree) : Type 0 where
  pub seats : Fits types level s
  pub votes : Fits types (level + 1) v
  pub can : can_split (type_of types s).shape (type_of types v).shape ≡ true

-- and minima, by a divisor method
pub record FitsMinima (types : List Column) (level : ℕ) (s v m : ExprTree) (method : Method) : Type 0 where
  pub split : FitsSplit types level s v
  pub minima : Fits types (level + 2) m
  pub same : (type_of types m).shape ≡ (type_of types v).shape
  pub divisor : Divisor
  pub by_it : method ≡ by.Divisor divisor

-- of a growth
pub record FitsGrowth (types : List Column) (level : ℕ) (s v m : ExprTree) (method : Method) (cap : ℕ) : Type 0 where
  pub split : FitsMinima types level s v m method
  pub one : (type_of types s).shape ≡ shape.One
  pub few : cap ≤ MAX_SEATS
