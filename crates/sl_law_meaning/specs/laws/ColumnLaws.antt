-- What the columns of a well-formed rulebook keep (docs/meaning.md, section 10).
use Rattle.std.specs.Prelude.{◌≡◌, ℕ, ◌*◌, ◌<◌, ◌≤◌, true, false, List, length, None}
use Rattle.std.specs.List.{All, AllZip}
use Rattle.sl_base_quotients.specs.declared.limits.TheConstants.{MAX_SEATS, MAX_LANDS, MAX_PARTIES, MAX_VOTES}
use Rattle.sl_base_terms.specs.declared.shape.Shape.{Shape}
use Rattle.sl_base_terms.specs.declared.shape.Shape.TheVariants as shape
use Rattle.sl_law_meaning.specs.declared.book.Unit.{Unit as Units}
use Rattle.sl_law_meaning.specs.declared.book.Unit.TheVariants as unit
use Rattle.sl_law_meaning.specs.declared.book.ColumnType.{ColumnType}
use Rattle.sl_law_meaning.specs.book.Trees.{ExprTree, BookTree}
use Rattle.sl_law_meaning.specs.returns.Election.{Election, IsElection, lands_of, parties_of, has_list}
use Rattle.sl_base_terms.specs.Tests.{first_failing}
use Rattle.sl_law_meaning.specs.book.Typing.{Column as TypedColumn, type_of, expr_tests, is_typed}
use Rattle.sl_law_meaning.specs.returns.Facts.{list_cell}
use Rattle.sl_law_meaning.specs.meaning.Columns.{NamedColumn}
use Rattle.sl_law_meaning.specs.meaning.Records.{Records}
use Rattle.sl_law_meaning.specs.meaning.Results.{Column}
use Rattle.sl_law_meaning.specs.meaning.Expressions.{Context, ExprMeans}
use Rattle.sl_law_meaning.specs.meaning.Means.{Known, Through, nothing_known, StagesMean}

-- how many numbers a column of a shape has
abbrev pub size_of : Election → Shape → ℕ
size_of e shape.One = 1
size_of e shape.Party = parties_of e
size_of e shape.Land = lands_of e
size_of e shape.List = lands_of e * parties_of e

-- the greatest number of a list, and that of an entry which sums so many lists
abbrev pub most_of_list : Units → ℕ
most_of_list unit.Seats = MAX_SEATS
most_of_list unit.Votes = MAX_VOTES

abbrev pub lists_in : Shape → ℕ
lists_in shape.One = MAX_LANDS * MAX_PARTIES
lists_in shape.Party = MAX_LANDS
lists_in shape.Land = MAX_PARTIES
lists_in shape.List = 1

abbrev pub most_of : ColumnType → ℕ
most_of t = lists_in t.shape * most_of_list t.unit

-- the column has a number for each entry of its shape, none of them too great, and 0 for a pair of Land and party without a list
pub record FitsType (e : Election) (t : ColumnType) (c : List ℕ) : Type 0 where
  pub size : length c ≡ size_of e t.shape
  pub most : All (λ n. n ≤ most_of t) c
  pub lists_alone : t.shape ≡ shape.List → (land party : ℕ) → land < lands_of e → party < parties_of e → has_list e land party ≡ false →
      list_cell e c land party ≡ 0

-- each column has its name and its type
pub record IsTypedAs (e : Election) (t : TypedColumn) (c : NamedColumn) : Type 0 where
  pub name : t.name ≡ c.name
  pub type : FitsType e t.type c.values

-- after columns of their types, a well-formed expression is a column of its type
abbrev pub TypedExpressions : Type 0
TypedExpressions =
    (b : BookTree) (e : Election) (c : Context) (x : ExprTree) (values : List ℕ) (records : Records) →
    is_typed b ≡ true → IsElection e → AllZip (IsTypedAs e) c.types c.columns → first_failing (expr_tests c.types x) ≡ None →
    ExprMeans b e c x (Column values records) → FitsType e (type_of c.types x) values

-- so the columns of a well-formed book have their types
abbrev pub TypedStages : Type 0
TypedStages =
    (b : BookTree) (e : Election) (k : Known) → is_typed b ≡ true → IsElection e → StagesMean b e nothing_known b.stages (Through k) →
    AllZip (IsTypedAs e) k.types k.columns
