-- What the expressions of a rulebook mean on returns (docs/meaning.md, sections 2 and 3).
use Rattle.std.specs.Prelude.{◌≡◌, ℕ, ◌-◌, Bool, List, [], ◌∷◌, Some, find, map, max, sum, sum_by, unwrap_or, option_map}
use Rattle.std.specs.List.{zip}
use Rattle.std.specs.Str.{bytes_eq}
use Rattle.sl_law_meaning.specs.declared.book.Axis.{Axis}
use Rattle.sl_law_meaning.specs.declared.book.Axis.TheVariants as axis
use Rattle.sl_law_meaning.specs.declared.book.Pairing.{Pairing}
use Rattle.sl_law_meaning.specs.declared.book.Pairing.TheVariants as pairings
use Rattle.sl_law_meaning.specs.declared.fact.Fact.{Fact}
use Rattle.sl_law_meaning.specs.declared.fact.Fact.TheVariants as facts
use Rattle.sl_law_meaning.specs.book.Trees.{ExprTree, fact, name, BookTree}
use Rattle.sl_law_meaning.specs.returns.Election.{Election}
use Rattle.sl_law_meaning.specs.returns.Facts.{lands, parties, by_party, by_land, list_cell, counted_votes, list_winners, outside_winners, independent_winners}

-- a stage's column, under its name
pub record NamedColumn : Type 0 where
  pub name : List ℕ
  pub values : List ℕ

abbrev pub is_column_of : List ℕ → NamedColumn → Bool
is_column_of n c = bytes_eq n c.name

-- a list column by party or by Land, or the sum of any column
abbrev pub sum_over : Election → Axis → List ℕ → List ℕ
sum_over e axis.Party column = by_party e (λ party. sum_by (λ land. list_cell e column land party) (lands e))
sum_over e axis.Land column = by_land e (λ land. sum_by (λ party. list_cell e column land party) (parties e))
sum_over e axis.All column = sum column ∷ []

-- the greater of two numbers, or the first less the second, at least 0
abbrev pub paired : Pairing → ℕ → ℕ → ℕ
paired pairings.Larger x y = max x y
paired pairings.Less x y = x - y

-- a pair of columns, number by number
abbrev pub pair_of : Pairing → List ℕ → List ℕ → List ℕ
pair_of pairing left right = map (λ x. paired pairing x.0 x.1) (zip left right)

module _ (b : BookTree) (e : Election) where
  -- the column of a fact
  abbrev pub fact_column : Fact → List ℕ
  fact_column facts.House = unwrap_or e.house b.house.value ∷ []
  fact_column facts.Counted = counted_votes b.eligible e
  fact_column facts.Winners = list_winners b.eligible e
  fact_column facts.Outside = outside_winners b.eligible e
  fact_column facts.Independents = independent_winners b.eligible e
  fact_column facts.Population = e.populations

  -- a leaf of an expression is that column, where those are the columns of the stages before it
  abbrev pub IsLeaf : List NamedColumn → ExprTree → List ℕ → Type 0
  IsLeaf stages (fact at told) c = c ≡ fact_column told
  IsLeaf stages (name at n) c = option_map (λ s. s.values) (find (is_column_of n) stages) ≡ Some c
  IsLeaf stages _ c = ⊥
