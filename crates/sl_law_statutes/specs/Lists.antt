-- How the lists of a party share its seats by the statutes, and what more votes bring a list, whatever the offsets in their texts. Each law is
-- the contract of a function of `laws`.
use Rattle.std.specs.Prelude.{ℕ, ◌<◌, ◌≤◌, List, min}
use Rattle.std.specs.List.{AllZip}
use Rattle.sl_base_quotients.specs.declared.method.Divisor.TheVariants.{Webster}
use Rattle.sl_law_meaning.specs.declared.fact.Fact.TheVariants as facts
use Rattle.sl_law_meaning.specs.declared.election.ListVotes.{ListVotes}
use Rattle.sl_law_meaning.specs.declared.election.Lot.{Lot}
use Rattle.sl_law_meaning.specs.declared.table.Outcome.TheVariants as outcome
use Rattle.sl_law_meaning.specs.book.Trees.{BookTree}
use Rattle.sl_law_meaning.specs.returns.Election.{Election, IsElection, parties_of, with_list}
use Rattle.sl_law_meaning.specs.returns.Facts.{lists_of}
use Rattle.sl_law_meaning.specs.methods.Field.{no_minima}
use Rattle.sl_law_meaning.specs.methods.Allocations.{IsDivisorAllocation}
use Rattle.sl_law_meaning.specs.meaning.Columns.{fact_column}
use Rattle.sl_law_meaning.specs.meaning.Scopes.{cells, lists_of_party}
use Rattle.sl_law_meaning.specs.meaning.Tables.{SeatTable}
use Rattle.sl_law_meaning.specs.meaning.Means.{Means}
use Rattle.sl_law_fairness.specs.Winners.{IsBase, IsLine, base_seats, winners_on}
use Rattle.sl_law_statutes.specs.Trees.{law_of_2013, law_of_2023, law_of_2023_order}
use Rattle.sl_law_statutes.specs.Parties.{party_seats, IsGain}

-- the lists of each party have among them an allocation, by Webster's method, of the seats that it has: by their base, which the table keeps
abbrev pub AlwaysShareByWebster : BookTree → Type 0
AlwaysShareByWebster b =
    (e : Election) (t : SeatTable) (base : List ℕ) → IsElection e → IsBase b e base → Means b e (outcome.Table t) →
    AllZip (λ l. IsLine l (base_seats e base l) (min (base_seats e base l) (winners_on b e l))) (lists_of e) t.lists
    × ((party : ℕ) → party < parties_of e →
    let votes = cells e (lists_of_party e party) (fact_column b e facts.Counted) in
    IsDivisorAllocation Webster votes (no_minima votes) (party_seats t party) (cells e (lists_of_party e party) base))

-- by the statute of 2013 with their winners as minima
abbrev pub ListsOf2013 : Type 0
ListsOf2013 =
    (at : ℕ → ℕ) (e : Election) (t : SeatTable) (base : List ℕ) →
    let b = law_of_2013 at in
    IsElection e → IsBase b e base → Means b e (outcome.Table t) →
    AllZip (λ l. IsLine l (base_seats e base l) (winners_on b e l)) (lists_of e) t.lists
    × ((party : ℕ) → party < parties_of e →
    IsDivisorAllocation Webster (cells e (lists_of_party e party) (fact_column b e facts.Counted)) (cells e (lists_of_party e party) (fact_column b e facts.Winners))
    (party_seats t party) (cells e (lists_of_party e party) base))

-- with more votes for a list, and all else equal but the lots, the list itself has no fewer seats: by the bases, which the tables keep
abbrev pub ListNeverLoses : BookTree → Type 0
ListNeverLoses b =
    (e : Election) (land party : ℕ) (votes : ListVotes) → IsElection e → IsGain e land party votes →
    (lots : List Lot) → IsElection (record (with_list e land party votes) { lots = lots }) →
    (t u : SeatTable) → Means b e (outcome.Table t) → Means b (record (with_list e land party votes) { lots = lots }) (outcome.Table u) →
    (base after : List ℕ) → IsBase b e base → IsBase b (record (with_list e land party votes) { lots = lots }) after →
    base_seats e base (land, party) ≤ base_seats (with_list e land party votes) after (land, party)

-- ---- the laws

abbrev pub ListsOf2023 : Type 0
ListsOf2023 = (at : ℕ → ℕ) → AlwaysShareByWebster (law_of_2023 at) × AlwaysShareByWebster (law_of_2023_order at)

abbrev pub ListVotesOf2023 : Type 0
ListVotesOf2023 = (at : ℕ → ℕ) → ListNeverLoses (law_of_2023 at) × ListNeverLoses (law_of_2023_order at)
