-- The shape and the unit of an expression, as the table of expressions gives them (docs/language.md, section 3).
use Rattle.std.specs.Prelude.{◌≡◌, ◌≢◌, ℕ, ◌≤◌, List, Some, find}
use Rattle.sl_base_quotients.specs.declared.method.Divisor.{Divisor as DivisorMethod}
use Rattle.sl_base_quotients.specs.declared.method.Method.{Method}
use Rattle.sl_base_quotients.specs.declared.method.Method.TheVariants.{Divisor, Hamilton}
use Rattle.sl_base_quotients.specs.declared.limits.TheConstants.{MAX_SEATS}
use Rattle.sl_base_terms.specs.declared.shape.Shape.{Shape}
use Rattle.sl_base_terms.specs.declared.shape.Shape.TheVariants as shape
use Rattle.sl_law_meaning.specs.declared.book.Unit.TheVariants as unit
use Rattle.sl_law_meaning.specs.declared.book.Axis.{Axis}
use Rattle.sl_law_meaning.specs.declared.book.Axis.TheVariants as axis
use Rattle.sl_law_meaning.specs.declared.book.Majority.{Majority}
use Rattle.sl_law_meaning.specs.declared.book.Majority.TheVariants as majority
use Rattle.sl_law_meaning.specs.declared.book.ColumnType.{ColumnType}
use Rattle.sl_law_meaning.specs.book.Trees.{ExprTree, fact, name, sum, pair, split, without, atleast, grow}
use Rattle.sl_law_meaning.specs.book.Typing.{Column, column, fact_type, is_named}

-- a column of the first shape is summed over the axis to one of the second
abbrev pub Sums : Shape → Axis → Shape → Type 0
Sums shape.List axis.Party shape.Party = Unit {0}
Sums shape.List axis.Land shape.Land = Unit {0}
Sums shape.List axis.All shape.One = Unit {0}
Sums shape.Party axis.All shape.One = Unit {0}
Sums shape.Land axis.All shape.One = Unit {0}
Sums _ _ _ = ⊥

-- seats of the first shape are distributed by votes of the second: all at once, for each party, or for each Land
abbrev pub Splits : Shape → Shape → Type 0
Splits shape.One shape.Party = Unit {0}
Splits shape.One shape.Land = Unit {0}
Splits shape.One shape.List = Unit {0}
Splits shape.Party shape.List = Unit {0}
Splits shape.Land shape.List = Unit {0}
Splits _ _ = ⊥

-- a type is that of the earlier stage of that name
pub record IsStageType (cs : List Column) (n : List ℕ) (t : ColumnType) : Type 0 where
  pub of : Column
  pub found : find (is_named n) cs ≡ Some of
  pub same : t ≡ of.type

-- a type is that of a sum
pub record IsSumType (Of : ColumnType → Type 0) (over : Axis) (t : ColumnType) : Type 0 where
  pub from : Shape
  pub sums : Sums from over t.shape
  pub of : Of (column from t.unit)

-- a type is that of a split without minima; Hamilton's method alone knows preferred entries
pub record IsSplitType (Seats Votes : ColumnType → Type 0) (method : Method) (m : Majority) (t : ColumnType) : Type 0 where
  pub from : Shape
  pub splits : Splits from t.shape
  pub seats : Seats (column from unit.Seats)
  pub votes : Votes (column t.shape unit.Votes)
  pub gives : t.unit ≡ unit.Seats
  pub preferred : m ≡ majority.Prefer → method ≡ Hamilton

-- a type is that of a split or a growth from seats of that shape, with minima: by a divisor method, with no preferred entries
pub record IsSplitFromType (Seats Votes Minima : ColumnType → Type 0) (from : Shape) (method : Method) (m : Majority) (t : ColumnType) : Type 0 where
  pub splits : Splits from t.shape
  pub seats : Seats (column from unit.Seats)
  pub votes : Votes (column t.shape unit.Votes)
  pub minima : Minima (column t.shape unit.Seats)
  pub gives : t.unit ≡ unit.Seats
  pub divisor : DivisorMethod
  pub by : method ≡ Divisor divisor
  pub not_preferred : m ≢ majority.Prefer

-- an expression after stages with these columns has that shape and that unit
abbrev pub HasType : List Column → ExprTree → ColumnType → Type 0
HasType cs (fact at told) t = t ≡ fact_type told
HasType cs (name at n) t = IsStageType cs n t
HasType cs (sum at e over) t = IsSumType (HasType cs e) over t
HasType cs (pair at pairing l r) t = HasType cs l t × HasType cs r t
HasType cs (split at s v method without m) t = IsSplitType (HasType cs s) (HasType cs v) method m t
HasType cs (split at s v method (atleast f) m) t = (from : Shape) × IsSplitFromType (HasType cs s) (HasType cs v) (HasType cs f) from method m t
HasType cs (grow at s v method f cap m) t = IsSplitFromType (HasType cs s) (HasType cs v) (HasType cs f) shape.One method m t × (1 ≤ cap.value) × (cap.value ≤ MAX_SEATS)
