-- The columns of the stages before, and what an expression without split and growth comes to by them.
use Rattle.std.specs.Prelude.{◌≡◌, ℕ, ◌⊎◌, Bool, true, false, List, [], Some, None, map, take, length}
use Rattle.std.specs.List.{zip, AllZip}
use Rattle.sl_law_meaning.specs.declared.count.Column.{Column}
use Rattle.sl_base_quotients.specs.declared.method.Method.{Method}
use Rattle.sl_report_results.specs.declared.columns.Distribution.{Distribution}
use Rattle.sl_law_meaning.specs.book.Trees.{BookTree, ExprTree, atleast, fact, grow, name, pair, split, sum, without}
use Rattle.sl_law_meaning.specs.book.Typing.{Column as TypedColumn, columns_of, expr_tests, splits_in, type_of}
use Rattle.sl_law_meaning.specs.declared.book.Stage.{Stage}
use Rattle.sl_law_meaning.specs.laws.ColumnLaws.{FitsType, IsTypedAs}
use Rattle.sl_law_meaning.specs.meaning.Columns.{NamedColumn}
use Rattle.sl_law_meaning.specs.meaning.Expressions.{Context, ExprMeans}
use Rattle.sl_law_meaning.specs.meaning.Results.{plain}
use Rattle.sl_law_meaning.specs.returns.Election.{Election}
use Rattle.sl_base_terms.specs.Tests.{first_failing}

-- the columns, under the names of their stages
abbrev pub named_columns : List Stage → List Column → List NamedColumn
named_columns stages earlier = map (λ x. record { name = x.0.name; values = x.1.cells.items }) (zip stages earlier)

-- the names and the types of the first stages of a book, so many of them
abbrev pub types_before : BookTree → ℕ → List TypedColumn
types_before b n = columns_of [] (take n b.stages)

-- the columns of the stages before have their types
pub record HaveTypes (b : BookTree) (e : Election) (stages : List Stage) (earlier : List Column) : Type 0 where
  pub typed : AllZip (IsTypedAs e) (types_before b (length earlier)) (named_columns stages earlier)
  pub shapes : map (λ c. c.shape) earlier ≡ map (λ t. t.type.shape) (types_before b (length earlier))

-- an expression is well formed after stages of these types
abbrev pub IsWellFormed : List TypedColumn → ExprTree → Type 0
IsWellFormed types x = first_failing (expr_tests types x) ≡ None

-- an expression has neither a split nor a growth
abbrev pub HasNoSplit : ExprTree → Type 0
HasNoSplit x = splits_in x ≡ 0

-- wherever those are the columns of the stages before, the expression means that column, and distributes no seats
abbrev pub IsValue : BookTree → Election → List NamedColumn → ExprTree → List ℕ → Type 0
IsValue b e columns x values = (c : Context) → c.columns ≡ columns → ExprMeans b e c x (plain values)

module _ (b : BookTree) (e : Election) (types : List TypedColumn) (columns : List NamedColumn) where
  -- the column is that of the expression, of its type
  pub record IsColumnOf (x : ExprTree) (c : Column) : Type 0 where
    pub means : IsValue b e columns x c.cells.items
    pub fits : FitsType e (type_of types x) c.cells.items
    pub of_shape : c.shape ≡ (type_of types x).shape

  -- ---- what the split or the growth in an expression distributes

  pub record IsPlain (s v : ExprTree) (by : Method) (d : Distribution) : Type 0 where
    pub seats : IsColumnOf s d.seats
    pub votes : IsColumnOf v d.votes
    pub method : d.method ≡ by
    pub minima : d.minima ≡ None
    pub grows : d.grows ≡ false

  -- the same with minima
  pub record IsWith (s v : ExprTree) (by : Method) (m : ExprTree) (growing : Bool) (d : Distribution) : Type 0 where
    pub seats : IsColumnOf s d.seats
    pub votes : IsColumnOf v d.votes
    pub method : d.method ≡ by
    pub least : Column
    pub minima : d.minima ≡ Some least
    pub values : IsColumnOf m least
    pub grows : d.grows ≡ growing

  abbrev pub IsDistributed : ExprTree → Distribution → Type 0
  IsDistributed (fact at told) d = ⊥
  IsDistributed (name at n) d = ⊥
  IsDistributed (sum at x over) d = IsDistributed x d
  IsDistributed (pair at pairing x y) d = IsDistributed x d ⊎ IsDistributed y d
  IsDistributed (split at s v method without majority) d = IsPlain s v method d
  IsDistributed (split at s v method (atleast m) majority) d = IsWith s v method m false d
  IsDistributed (grow at s v method m cap majority) d = IsWith s v method m true d
