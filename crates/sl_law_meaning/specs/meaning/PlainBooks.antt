-- What a plain rulebook comes to: one without splits, growths, covering and vacant seats (docs/meaning.md, section 12).
use Rattle.std.specs.Prelude.{◌≡◌, ℕ, Bool, true, false, ◌&&◌, List, [], ◌∷◌, ◌++◌, map, max, is_none, nat_eq}
use Rattle.std.specs.List.{list_all}
use Rattle.sl_law_meaning.specs.declared.book.Seating.{Seating}
use Rattle.sl_law_meaning.specs.declared.book.Seating.TheVariants as seating
use Rattle.sl_law_meaning.specs.declared.table.ListSeats.{ListSeats}
use Rattle.sl_law_meaning.specs.meaning.Tables.{SeatTable}
use Rattle.sl_law_meaning.specs.book.Trees.{ExprTree, fact, name, sum, pair, split, grow, StageTree, BookTree}
use Rattle.sl_law_meaning.specs.returns.Election.{Election}
use Rattle.sl_law_meaning.specs.book.Typing.{splits_in}
use Rattle.sl_law_meaning.specs.returns.Facts.{each_list, list_cell, list_winners}
use Rattle.sl_law_meaning.specs.meaning.Columns.{NamedColumn, IsLeaf, sum_over, pair_of}
use Rattle.sl_law_meaning.specs.meaning.Seating.{base_of, kept_place}

module _ (b : BookTree) (e : Election) where
  -- the expression, one without splits and growths, is that column, where those are the columns of the stages before it
  abbrev pub IsColumn : List NamedColumn → ExprTree → List ℕ → Type 0
  IsColumn stages (fact at told) c = IsLeaf b e stages (fact at told) c
  IsColumn stages (name at n) c = IsLeaf b e stages (name at n) c
  IsColumn stages (sum at x over) c = (xs : List ℕ) × IsColumn stages x xs × (c ≡ sum_over e over xs)
  IsColumn stages (pair at pairing x y) c = (xs : List ℕ) × (ys : List ℕ) × IsColumn stages x xs × IsColumn stages y ys × (c ≡ pair_of pairing xs ys)
  IsColumn stages (split at s v method minima m) c = ⊥
  IsColumn stages (grow at s v method f cap m) c = ⊥

  -- these stages, after those columns, have in the end all of these columns
  abbrev pub AreColumns : List NamedColumn → List StageTree → List NamedColumn → Type 0
  AreColumns before [] all = all ≡ before
  AreColumns before (s ∷ ss) all = (c : List ℕ) × IsColumn before s.expr c × AreColumns (before ++ record { name = s.name; values = c } ∷ []) ss all

-- under `keep` a list has the greater of its base and its winners, who all sit on it
abbrev pub kept_list : BookTree → Election → List ℕ → ℕ → ℕ → ListSeats
kept_list b e column land party =
    let won = list_cell e (list_winners b.eligible e) land party in
    record { land = land; party = party; seats = max (list_cell e column land party) won; direct = won; vacant = 0 }

abbrev pub kept_lists : BookTree → Election → List ℕ → List ListSeats
kept_lists b e column = each_list e (kept_list b e column)

-- under a book that keeps, the table, where the base is that column
abbrev pub kept_table : BookTree → Election → List ℕ → SeatTable
kept_table b e column = record { lists = kept_lists b e column; placed = map (kept_place b e) e.wins; steps = []; weights = [] }

-- the book yields that table: there are columns of its stages and of its base
abbrev pub ComesTo : BookTree → Election → SeatTable → Type 0
ComesTo b e t = (columns : List NamedColumn) × (column : List ℕ) × AreColumns b e [] b.stages columns × IsColumn b e columns (base_of b.last) column × (t ≡ kept_table b e column)

abbrev pub is_keep : Seating → Bool
is_keep seating.Keep = true
is_keep seating.Cover = false

-- a book without splits and growths whose winners are all kept, and no vacant seats are named
abbrev pub is_plain : BookTree → Bool
is_plain b = list_all (λ s. nat_eq (splits_in s.expr) 0) b.stages && is_keep b.last.seating && is_none b.last.vacate
