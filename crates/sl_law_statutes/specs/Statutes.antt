-- What the statutes say of winners, whatever the offsets in their texts. Each law is the contract of a function of `laws`.
use Rattle.std.specs.Prelude.{◌≡◌, ◌⊎◌, ℕ, ◌<◌, ◌≤◌, List, Some, max, slice_get}
use Rattle.std.specs.List.{AllPass, AllZip}
use Rattle.sl_law_meaning.specs.declared.book.Seating.TheVariants as seating
use Rattle.sl_law_meaning.specs.declared.table.ListSeats.{ListSeats}
use Rattle.sl_law_meaning.specs.declared.table.Outcome.TheVariants as outcome
use Rattle.sl_law_meaning.specs.declared.table.Placed.TheVariants as placed
use Rattle.sl_law_meaning.specs.book.Trees.{BookTree}
use Rattle.sl_law_meaning.specs.book.Typing.{is_typed}
use Rattle.sl_law_meaning.specs.returns.Election.{Election, IsElection, wins_of}
use Rattle.sl_law_meaning.specs.returns.Facts.{lists_of}
use Rattle.sl_law_meaning.specs.meaning.Tables.{SeatTable}
use Rattle.sl_law_meaning.specs.meaning.Means.{Means}
use Rattle.sl_law_fairness.specs.Winners.{IsBase, base_seats, winners_on, IsLine}
use Rattle.sl_law_statutes.specs.Trees.{law_of_1956, law_of_1985, law_of_2008, law_of_2013, law_of_2023, law_of_2023_order, statutes}

-- the statutes up to 2013 keep the winners, and those of 2023 cover them
abbrev pub LastClauses : Type 0
LastClauses =
    (at : ℕ → ℕ) →
    ((law_of_1956 at).last.seating ≡ seating.Keep)
    × ((law_of_1985 at).last.seating ≡ seating.Keep)
    × ((law_of_2008 at).last.seating ≡ seating.Keep)
    × ((law_of_2013 at).last.seating ≡ seating.Keep)
    × ((law_of_2023 at).last.seating ≡ seating.Cover)
    × ((law_of_2023_order at).last.seating ≡ seating.Cover)

-- each statute is a well-formed book
abbrev pub AreWellFormed : Type 0
AreWellFormed = (at : ℕ → ℕ) → AllPass (λ statute. is_typed (statute.1 at)) statutes

-- in each table each winner sits, on a list or as a single
abbrev pub AllSit : BookTree → Type 0
AllSit b =
    (e : Election) (t : SeatTable) → Means b e (outcome.Table t) →
    (k : ℕ) → k < wins_of e → (slice_get t.placed k ≡ Some placed.OnList) ⊎ (slice_get t.placed k ≡ Some placed.Single)

abbrev pub WinnersUpTo2013 : Type 0
WinnersUpTo2013 = (at : ℕ → ℕ) → AllSit (law_of_1956 at) × AllSit (law_of_1985 at) × AllSit (law_of_2008 at) × AllSit (law_of_2013 at)

-- in each table each list has the larger of its base and its winners, who all sit on it
abbrev pub HaveTheLarger : BookTree → Type 0
HaveTheLarger b =
    (e : Election) (t : SeatTable) (base : List ℕ) → IsElection e → IsBase b e base → Means b e (outcome.Table t) →
    AllZip (λ l. IsLine l (max (base_seats e base l) (winners_on b e l)) (winners_on b e l)) (lists_of e) t.lists

abbrev pub ListsUpTo2008 : Type 0
ListsUpTo2008 = (at : ℕ → ℕ) → HaveTheLarger (law_of_1956 at) × HaveTheLarger (law_of_1985 at) × HaveTheLarger (law_of_2008 at)

-- the line of a list that has seats for all its winners
pub record HasRoom (b : BookTree) (e : Election) (l : ℕ × ℕ) (s : ListSeats) : Type 0 where
  pub line : IsLine l s.seats (winners_on b e l) s
  pub room : winners_on b e l ≤ s.seats

-- by the statute of 2013 no list has fewer seats than its winners
abbrev pub WinnersOf2013 : Type 0
WinnersOf2013 =
    (at : ℕ → ℕ) (e : Election) (t : SeatTable) → IsElection e → Means (law_of_2013 at) e (outcome.Table t) →
    AllZip (HasRoom (law_of_2013 at) e) (lists_of e) t.lists
