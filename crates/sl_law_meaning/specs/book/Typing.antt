-- Which rulebooks are well formed: each test, in its order, and the fault that it gives (docs/language.md, section 5).
use Rattle.std.specs.Prelude.{ℕ, ◌+◌, Bool, true, false, not, ◌&&◌, ◌||◌, List, [], ◌∷◌, ◌++◌, Option, Some, None, nat_eq, nat_le, is_none, find}
use Rattle.std.specs.List.{list_any}
use Rattle.sl_base_quotients.specs.declared.method.Method.{Method}
use Rattle.sl_base_quotients.specs.declared.method.Method.TheVariants.{Divisor, Hamilton}
use Rattle.sl_base_quotients.specs.declared.limits.TheConstants.{MAX_SEATS}
use Rattle.sl_law_meaning.specs.declared.limits.TheConstants.{MAX_PER}
use Rattle.sl_base_terms.specs.declared.shape.Shape.{Shape}
use Rattle.sl_base_terms.specs.declared.shape.Shape.TheVariants as shape
use Rattle.sl_law_meaning.specs.declared.book.Unit.{Unit as Units}
use Rattle.sl_law_meaning.specs.declared.book.Unit.TheVariants as unit
use Rattle.sl_law_meaning.specs.declared.book.Axis.{Axis}
use Rattle.sl_law_meaning.specs.declared.book.Axis.TheVariants as axis
use Rattle.sl_law_meaning.specs.declared.book.Majority.{Majority}
use Rattle.sl_law_meaning.specs.declared.book.Majority.TheVariants as majority
use Rattle.sl_law_meaning.specs.declared.book.Number.{Number}
use Rattle.sl_law_meaning.specs.declared.book.ColumnType.{ColumnType}
use Rattle.sl_law_meaning.specs.declared.book.Cond.{Cond}
use Rattle.sl_law_meaning.specs.declared.book.Cond.TheVariants as condition
use Rattle.sl_law_meaning.specs.declared.book.Base.{Base}
use Rattle.sl_law_meaning.specs.declared.book.Base.TheVariants as base
use Rattle.sl_law_meaning.specs.declared.check_fault.CheckFault.{CheckFault}
use Rattle.sl_law_meaning.specs.declared.fact.Fact.{Fact}
use Rattle.sl_law_meaning.specs.declared.fact.Fact.TheVariants as facts
use Rattle.sl_law_meaning.specs.declared.check_fault.CheckFault.TheVariants as fault
use Rattle.sl_base_terms.specs.Tests.{Test, test, first_failing}
use Rattle.sl_law_meaning.specs.book.Trees.{ExprTree, fact, name, sum, pair, split, without, atleast, grow, StageTree, BookTree}
use Rattle.std.specs.Str.{bytes_eq}
use Rattle.sl_base_terms.specs.Shapes.{same_shape}

-- ---- columns

-- a stage's column, as later stages know it
pub record Column : Type 0 where
  pub name : List ℕ
  pub type : ColumnType

abbrev pub is_named : List ℕ → Column → Bool
is_named n c = bytes_eq n c.name

-- a column of that shape and unit
abbrev pub column : Shape → Units → ColumnType
column s u = record { shape = s; unit = u }

abbrev pub type_or_one : Option Column → ColumnType
type_or_one None = column shape.One unit.Seats
type_or_one (Some c) = c.type

abbrev pub shape_over : Axis → Shape
shape_over axis.Party = shape.Party
shape_over axis.Land = shape.Land
shape_over axis.All = shape.One

-- the number of a fact: its place among all
abbrev pub fact_number : Fact → ℕ
fact_number facts.House = 0
fact_number facts.Counted = 1
fact_number facts.Winners = 2
fact_number facts.Outside = 3
fact_number facts.Independents = 4
fact_number facts.Population = 5

-- the shape and the unit of a fact's column
abbrev pub fact_type : Fact → ColumnType
fact_type facts.House = column shape.One unit.Seats
fact_type facts.Counted = column shape.List unit.Votes
fact_type facts.Winners = column shape.List unit.Seats
fact_type facts.Outside = column shape.Land unit.Seats
fact_type facts.Independents = column shape.Land unit.Seats
fact_type facts.Population = column shape.Land unit.Votes

-- the shape and the unit of an expression whose tests hold
abbrev pub type_of : List Column → ExprTree → ColumnType
type_of cs (fact at told) = fact_type told
type_of cs (name at n) = type_or_one (find (is_named n) cs)
type_of cs (sum at e over) = column (shape_over over) (type_of cs e).unit
type_of cs (pair at pairing l r) = type_of cs l
type_of cs (split at s v method minima m) = column (type_of cs v).shape unit.Seats
type_of cs (grow at s v method f cap m) = column (type_of cs v).shape unit.Seats

abbrev pub same_unit : Units → Units → Bool
same_unit unit.Seats unit.Seats = true
same_unit unit.Votes unit.Votes = true
same_unit _ _ = false

-- ---- tests

-- a column of that shape can be summed so
abbrev pub can_sum : Shape → Axis → Bool
can_sum shape.One over = false
can_sum shape.List over = true
can_sum shape.Party axis.All = true
can_sum shape.Land axis.All = true
can_sum _ _ = false

-- seats of the first shape can be split by votes of the second
abbrev pub can_split : Shape → Shape → Bool
can_split shape.One v = not (same_shape v shape.One)
can_split shape.Party v = same_shape v shape.List
can_split shape.Land v = same_shape v shape.List
can_split shape.List v = false

abbrev pub is_hamilton : Method → Bool
is_hamilton Hamilton = true
is_hamilton (Divisor d) = false

abbrev pub is_prefer : Majority → Bool
is_prefer majority.Prefer = true
is_prefer _ = false

abbrev pub is_seat_number : ℕ → Bool
is_seat_number n = nat_le 1 n && nat_le n MAX_SEATS

-- ---- the tests of a node of an expression, by the types of its arguments

-- a stage's name: it is one of those columns
abbrev pub name_tests : List Column → ℕ → List ℕ → List (Test CheckFault)
name_tests cs at n = test (list_any (is_named n) cs) (fault.StageUnknown at) ∷ []

abbrev pub sum_tests : ℕ → ColumnType → Axis → List (Test CheckFault)
sum_tests at e over = test (can_sum e.shape over) (fault.Shape at) ∷ []

-- two columns of one shape, and of one unit
abbrev pub pair_tests : ℕ → ColumnType → ColumnType → List (Test CheckFault)
pair_tests at l r = test (same_shape l.shape r.shape) (fault.Shape at) ∷ test (same_unit l.unit r.unit) (fault.Unit at) ∷ []

abbrev pub split_tests : ℕ → ColumnType → ColumnType → Method → Majority → List (Test CheckFault)
split_tests at s v method m =
    test (not (is_prefer m) || is_hamilton method) (fault.MethodOption at)
    ∷ test (can_split s.shape v.shape) (fault.Shape at)
    ∷ test (same_unit s.unit unit.Seats && same_unit v.unit unit.Votes) (fault.Unit at) ∷ []

abbrev pub share_from_tests : ℕ → ColumnType → ColumnType → ColumnType → List (Test CheckFault)
share_from_tests at s v f =
    test (can_split s.shape v.shape && same_shape f.shape v.shape) (fault.Shape at)
    ∷ test (same_unit s.unit unit.Seats && same_unit v.unit unit.Votes && same_unit f.unit unit.Seats) (fault.Unit at) ∷ []

abbrev pub split_from_tests : ℕ → ColumnType → ColumnType → ColumnType → Method → Majority → List (Test CheckFault)
split_from_tests at s v f method m = test (not (is_prefer m) && not (is_hamilton method)) (fault.MethodOption at) ∷ share_from_tests at s v f

abbrev pub grow_tests : ℕ → ColumnType → ColumnType → ColumnType → Method → Number → Majority → List (Test CheckFault)
grow_tests at s v f method cap m =
    test (not (is_prefer m) && not (is_hamilton method)) (fault.MethodOption at)
    ∷ test (is_seat_number cap.value) (fault.CapRange cap.at)
    ∷ test (same_shape s.shape shape.One && can_split s.shape v.shape && same_shape f.shape v.shape) (fault.Shape at)
    ∷ test (same_unit s.unit unit.Seats && same_unit v.unit unit.Votes && same_unit f.unit unit.Seats) (fault.Unit at) ∷ []

module _ (cs : List Column) where
  -- two expressions of one shape, and of one unit
  abbrev pub alike_tests : ℕ → ExprTree → ExprTree → List (Test CheckFault)
  alike_tests at l r = pair_tests at (type_of cs l) (type_of cs r)

  -- the tests of an expression: those of its arguments from left to right, and then its own
  abbrev pub expr_tests : ExprTree → List (Test CheckFault)
  expr_tests (fact at told) = []
  expr_tests (name at n) = name_tests cs at n
  expr_tests (sum at e over) = expr_tests e ++ sum_tests at (type_of cs e) over
  expr_tests (pair at pairing l r) = expr_tests l ++ (expr_tests r ++ alike_tests at l r)
  expr_tests (split at s v method without m) = expr_tests s ++ (expr_tests v ++ split_tests at (type_of cs s) (type_of cs v) method m)
  expr_tests (split at s v method (atleast f) m) =
      expr_tests s ++ (expr_tests v ++ (expr_tests f ++ split_from_tests at (type_of cs s) (type_of cs v) (type_of cs f) method m))
  expr_tests (grow at s v method f cap m) =
      expr_tests s ++ (expr_tests v ++ (expr_tests f ++ grow_tests at (type_of cs s) (type_of cs v) (type_of cs f) method cap m))

-- how many splits and growths an expression has
abbrev pub splits_in : ExprTree → ℕ
splits_in (fact at told) = 0
splits_in (name at n) = 0
splits_in (sum at e over) = splits_in e
splits_in (pair at pairing l r) = splits_in l + splits_in r
splits_in (split at s v method without m) = 1 + splits_in s + splits_in v
splits_in (split at s v method (atleast f) m) = 1 + splits_in s + splits_in v + splits_in f
splits_in (grow at s v method f cap m) = 1 + splits_in s + splits_in v + splits_in f

-- the column of a stage after those
abbrev pub stage_column : List Column → StageTree → Column
stage_column cs s = record { name = s.name; type = type_of cs s.expr }

-- the columns after these stages
abbrev pub columns_of : List Column → List StageTree → List Column
columns_of cs [] = cs
columns_of cs (s ∷ ss) = columns_of (cs ++ stage_column cs s ∷ []) ss

-- the tests of a stage after those columns: its name, the number of its splits, and its expression
abbrev pub stage_tests : List Column → StageTree → List (Test CheckFault)
stage_tests cs s =
    test (not (list_any (is_named s.name) cs)) (fault.StageTwice s.at)
    ∷ test (nat_le (splits_in s.expr) 1) (fault.TwoSplits s.at)
    ∷ expr_tests cs s.expr

-- the tests of the stages after those columns
abbrev pub stages_tests : List Column → List StageTree → List (Test CheckFault)
stages_tests cs [] = []
stages_tests cs (s ∷ ss) = stage_tests cs s ++ stages_tests (cs ++ stage_column cs s ∷ []) ss

-- a number is 1 or 2; and `vacate`, at its offset, stands in version 2 alone
abbrev pub version_tests : Number → Option ℕ → List (Test CheckFault)
version_tests v None = test (nat_eq v.value 1 || nat_eq v.value 2) (fault.Version v.at) ∷ []
version_tests v (Some at) = test (nat_eq v.value 1 || nat_eq v.value 2) (fault.Version v.at) ∷ test (nat_eq v.value 2) (fault.Version at) ∷ []

abbrev pub condition_tests : List Cond → List (Test CheckFault)
condition_tests [] = []
condition_tests (condition.Valid share per ∷ rest) =
    test (nat_le 1 share.value && nat_le share.value per && nat_le per MAX_PER) (fault.PerRange share.at) ∷ condition_tests rest
condition_tests (condition.Winners least ∷ rest) = condition_tests rest
condition_tests (condition.Minority ∷ rest) = condition_tests rest
condition_tests (condition.All ∷ rest) = condition_tests rest

abbrev pub base_tests : List Column → ℕ → Base → List (Test CheckFault)
base_tests cs at base.Winners = []
base_tests cs at (base.Stage n) =
    name_tests cs at n
    ++ test (same_shape (type_of cs (name at n)).shape shape.List && same_unit (type_of cs (name at n)).unit unit.Seats) (fault.SeatsShape at) ∷ []

-- every test of a book, in order
abbrev pub tests_of : BookTree → List (Test CheckFault)
tests_of b =
    version_tests b.version b.last.vacate
    ++ (test (is_seat_number b.house.value) (fault.HouseRange b.house.at)
    ∷ (condition_tests b.eligible ++ (stages_tests [] b.stages ++ base_tests (columns_of [] b.stages) b.last.at b.last.base)))

-- what is wrong with a book: the first test that fails
abbrev pub check_fault : BookTree → Option CheckFault
check_fault b = first_failing (tests_of b)

-- a book all of whose tests hold
abbrev pub is_typed : BookTree → Bool
is_typed b = is_none (check_fault b)
