-- What more than half of the counted votes has by the statutes, whatever the offsets in their texts. Each law is the contract of a function
-- of `laws`.
use Rattle.std.specs.Prelude.{ℕ, ◌-◌, ◌*◌, ◌<◌, ◌≤◌, List, sum, slice_index}
use Rattle.sl_law_meaning.specs.declared.table.Outcome.TheVariants as outcome
use Rattle.sl_law_meaning.specs.book.Trees.{BookTree}
use Rattle.sl_law_meaning.specs.returns.Election.{Election, IsElection}
use Rattle.sl_law_meaning.specs.meaning.Tables.{SeatTable}
use Rattle.sl_law_meaning.specs.meaning.Means.{Means}
use Rattle.sl_law_fairness.specs.Winners.{IsBase, outside, independents}
use Rattle.sl_law_statutes.specs.Trees.{law_of_1956, law_of_1985, law_of_2008, law_of_2013, law_of_2023, law_of_2023_order}
use Rattle.sl_law_statutes.specs.Houses.{house_of}
use Rattle.sl_law_statutes.specs.Parties.{party_column, party_seats, seats_column, base_of_party}

-- a party with more than half of the counted votes has in the base at least half of the seats that the parties share
abbrev pub AlwaysHasHalf : BookTree → Type 0
AlwaysHasHalf b =
    (e : Election) (base : List ℕ) → IsElection e → IsBase b e base →
    (party : ℕ) → sum (party_column b e) < 2 * slice_index (party_column b e) party →
    house_of b e - outside b e ≤ 2 * base_of_party e base party

-- or more than half, where there are any
abbrev pub AlwaysHasMore : BookTree → Type 0
AlwaysHasMore b =
    (e : Election) (base : List ℕ) → IsElection e → IsBase b e base → 0 < house_of b e - outside b e →
    (party : ℕ) → sum (party_column b e) < 2 * slice_index (party_column b e) party →
    house_of b e - outside b e < 2 * base_of_party e base party

-- in each table a party with more than half of the counted votes has more than half of the seats that the parties share
abbrev pub AlwaysKeepsMajorities : BookTree → Type 0
AlwaysKeepsMajorities b =
    (e : Election) (t : SeatTable) → IsElection e → Means b e (outcome.Table t) → 0 < house_of b e - independents e →
    (party : ℕ) → sum (party_column b e) < 2 * slice_index (party_column b e) party →
    house_of b e - independents e < 2 * party_seats t party

-- ---- the laws

abbrev pub MajorityBefore2013 : Type 0
MajorityBefore2013 = (at : ℕ → ℕ) → AlwaysHasHalf (law_of_1956 at) × AlwaysHasMore (law_of_1985 at) × AlwaysHasMore (law_of_2008 at)

abbrev pub MajorityOf2023 : Type 0
MajorityOf2023 = (at : ℕ → ℕ) → AlwaysKeepsMajorities (law_of_2023 at) × AlwaysKeepsMajorities (law_of_2023_order at)

-- by the statute of 2013 more than half of the seats that the parties have
abbrev pub MajorityOf2013 : Type 0
MajorityOf2013 =
    (at : ℕ → ℕ) (e : Election) (t : SeatTable) → IsElection e → Means (law_of_2013 at) e (outcome.Table t) → 0 < sum (seats_column e t) →
    (party : ℕ) → sum (party_column (law_of_2013 at) e) < 2 * slice_index (party_column (law_of_2013 at) e) party →
    sum (seats_column e t) < 2 * party_seats t party
