-- Who sits in the end: the last clause, from the column that it names to a seat table or a tie (docs/meaning.md, section 8).
use Rattle.std.specs.Prelude.{ℕ, ◌-◌, Bool, true, false, ◌&&◌, List, [], Option, Some, None, is_none, map, flat_map, filter, count_by, length, max, min, nat_eq, if◌then◌else◌}
use Rattle.std.specs.List.{zip, list_any, enumerate_from}
use Rattle.sl_law_meaning.specs.declared.book.Base.{Base}
use Rattle.sl_law_meaning.specs.declared.book.Base.TheVariants as base
use Rattle.sl_law_meaning.specs.declared.book.LastClause.{LastClause}
use Rattle.sl_law_meaning.specs.declared.fault.Scope.TheVariants as scope
use Rattle.sl_law_meaning.specs.declared.fault.Item.{Item}
use Rattle.sl_law_meaning.specs.declared.fault.Item.TheVariants as item
use Rattle.sl_law_meaning.specs.declared.fact.Fact.TheVariants as facts
use Rattle.sl_law_meaning.specs.declared.fault.FaultKind.TheVariants as fault
use Rattle.sl_law_meaning.specs.declared.fault.LegalFault.{LegalFault}
use Rattle.sl_law_meaning.specs.declared.election.Win.{Win}
use Rattle.sl_law_meaning.specs.declared.table.ListSeats.{ListSeats}
use Rattle.sl_law_meaning.specs.declared.table.Placed.{Placed}
use Rattle.sl_law_meaning.specs.declared.table.Placed.TheVariants as placed
use Rattle.sl_law_meaning.specs.meaning.Tables.{SeatTable}
use Rattle.sl_law_meaning.specs.book.Trees.{ExprTree, fact, name, BookTree}
use Rattle.sl_law_meaning.specs.returns.Votes.{slate_in}
use Rattle.sl_law_meaning.specs.returns.Election.{Election, list_at}
use Rattle.sl_law_meaning.specs.returns.Facts.{each_list, list_cell, list_winners, is_of, is_in, is_eligible, has_eligible_list, is_on_list}
use Rattle.sl_law_meaning.specs.methods.Covering.{IsCovering}
use Rattle.sl_law_meaning.specs.methods.Ties.{Choice, Decided, Tied, IsChoice}
use Rattle.sl_law_meaning.specs.meaning.Lots.{seats_lot}
use Rattle.sl_law_meaning.specs.meaning.Records.{Records}
use Rattle.sl_law_meaning.specs.meaning.Splits.{entries_at}
use Rattle.sl_law_meaning.specs.meaning.Results.{fault_at}

-- the base of the last clause, as an expression
abbrev pub base_of : LastClause → ExprTree
base_of last = named last.base where
  named : Base → ExprTree
  named base.Winners = fact last.at facts.Winners
  named (base.Stage n) = name last.at n

-- ---- the table, where each list has so many seats and the winners have these places

-- the winners placed on a list
abbrev pub is_on : Placed → Bool
is_on placed.OnList = true
is_on placed.Single = false
is_on placed.Unseated = false

abbrev pub placed_on : Election → List Placed → ℕ → ℕ → ℕ
placed_on e places land party = count_by (λ x. (is_in land x.0 && is_of party x.0) && is_on x.1) (zip e.wins places)

-- with `vacate`, the seats that neither the winners on the list nor the names left on it fill, where the names are given
abbrev pub vacant_of : Option ℕ → Option ℕ → ℕ → ℕ → ℕ
vacant_of (Some vacate) (Some names) seats direct = seats - direct - names
vacant_of _ _ seats direct = 0

-- under `keep` a winner with a list sits on it, and every other winner as a single
abbrev pub kept_place : BookTree → Election → Win → Placed
kept_place b e w = if is_on_list b.eligible e w then placed.OnList else placed.Single

module _ (b : BookTree) (e : Election) where
  abbrev pub table_line : (ℕ → ℕ → ℕ) → List Placed → ℕ → ℕ → ListSeats
  table_line seats places land party = record {
    land = land;
    party = party;
    seats = seats land party;
    direct = placed_on e places land party;
    vacant = vacant_of b.last.vacate (slate_in (list_at e land party)) (seats land party) (placed_on e places land party);
  }

  abbrev pub table_of : (ℕ → ℕ → ℕ) → List Placed → Records → SeatTable
  table_of seats places records = record {
    lists = each_list e (table_line seats places);
    placed = places;
    steps = records.steps;
    weights = records.weights;
  }

  -- ---- `keep`: a list has the greater of its base and its winners, who all sit on it; every other winner is a single

  abbrev pub kept_seats : List ℕ → ℕ → ℕ → ℕ
  kept_seats base land party = max (list_cell e base land party) (list_cell e (list_winners b.eligible e) land party)

  abbrev pub keep_table : List ℕ → Records → SeatTable
  keep_table base records = table_of (kept_seats base) (map (kept_place b e) e.wins) records

-- ---- `cover`: a list has its base, and as many winners sit on it as it has seats

module _ (eligible : ℕ → Bool) (e : Election) where
  -- the winners of a list, where these parties are eligible, with their numbers, in file order
  abbrev pub winners_of : ℕ → ℕ → List (ℕ × Win)
  winners_of land party = filter (λ x. has_eligible_list eligible e x.1 && (is_in land x.1 && is_of party x.1)) (enumerate_from 0 e.wins)

  abbrev pub winner_items : ℕ → ℕ → List Item
  winner_items land party = map (λ x. item.Win x.0) (winners_of land party)

  -- the choice between the winners of a list that has so many seats in the base: 1 for each who is seated
  abbrev pub IsSeating : List ℕ → ℕ × ℕ → Choice → Type 0
  IsSeating base l c =
      let won = winners_of l.0 l.1 in
      IsChoice (IsCovering (map (λ x. x.1.first) won) (map (λ x. x.1.valid) won) (min (list_cell e base l.0 l.1) (length won)))
      (seats_lot e (winner_items l.0 l.1)) c

  -- the tie of a list, if there is one, as a fault of the stage of that number
  abbrev pub tie_of : ℕ → (ℕ × ℕ) × Choice → Option LegalFault
  tie_of stage x = in_choice x.1 where
    in_choice : Choice → Option LegalFault
    in_choice (Decided s) = None
    in_choice (Tied k tied) = Some (fault_at stage (scope.List x.0.0 x.0.1) (fault.Tie k (entries_at (winner_items x.0.0 x.0.1) tied)))

  -- the winners who are seated on a list
  abbrev pub seated_on : (ℕ × ℕ) × Choice → List ℕ
  seated_on x = in_choice x.1 where
    in_choice : Choice → List ℕ
    in_choice (Decided s) = map (λ y. y.0.0) (filter (λ y. nat_eq y.1 1) (zip (winners_of x.0.0 x.0.1) s))
    in_choice (Tied k tied) = []

-- a winner who is seated on a list; an independent is a single; all others are not seated
abbrev pub cover_place : List ℕ → ℕ × Win → Placed
cover_place seated x =
    if list_any (nat_eq x.0) seated then placed.OnList else if is_none x.1.party then placed.Single else placed.Unseated

-- where a winner is seated, if those are the lists and their choices
abbrev pub covered_places : (ℕ → Bool) → Election → List ((ℕ × ℕ) × Choice) → List Placed
covered_places eligible e choices = map (cover_place (flat_map (seated_on eligible e) choices)) (enumerate_from 0 e.wins)

-- the table by a book, whose conditions say who is eligible
abbrev pub cover_table : BookTree → Election → List ℕ → Records → List ((ℕ × ℕ) × Choice) → SeatTable
cover_table b e base records choices = table_of b e (list_cell e base) (covered_places (is_eligible b.eligible e) e choices) records
