-- How the parties stand to each other by the statutes, and what more votes bring them, whatever the offsets in their texts. Each law is the
-- contract of a function of `laws`.
use Rattle.std.specs.Prelude.{◌≡◌, ℕ, ◌-◌, ◌<◌, ◌≤◌, List, Some, filter, sum, sum_by, nat_eq}
use Rattle.sl_base_quotients.specs.declared.method.Divisor.TheVariants.{Webster}
use Rattle.sl_law_meaning.specs.declared.book.Axis.TheVariants as axis
use Rattle.sl_law_meaning.specs.declared.fact.Fact.TheVariants as facts
use Rattle.sl_law_meaning.specs.declared.election.ListVotes.{ListVotes}
use Rattle.sl_law_meaning.specs.declared.election.Lot.{Lot}
use Rattle.sl_law_meaning.specs.declared.table.Outcome.TheVariants as outcome
use Rattle.sl_law_meaning.specs.book.Trees.{BookTree}
use Rattle.sl_law_meaning.specs.returns.Votes.{IsListVotes}
use Rattle.sl_law_meaning.specs.returns.Election.{Election, IsElection, list_at, with_list}
use Rattle.sl_law_meaning.specs.returns.Facts.{by_party}
use Rattle.sl_law_meaning.specs.methods.Field.{no_minima}
use Rattle.sl_law_meaning.specs.methods.Allocations.{IsDivisorAllocation}
use Rattle.sl_law_meaning.specs.meaning.Columns.{sum_over, fact_column}
use Rattle.sl_law_meaning.specs.meaning.Scopes.{cells, lists_of_party}
use Rattle.sl_law_meaning.specs.meaning.Tables.{SeatTable}
use Rattle.sl_law_meaning.specs.meaning.Means.{Means}
use Rattle.sl_law_fairness.specs.Winners.{independents}
use Rattle.sl_law_statutes.specs.Trees.{law_of_2023, law_of_2023_order}
use Rattle.sl_law_statutes.specs.Houses.{house_of}

-- the counted votes of each party that takes part
abbrev pub party_column : BookTree → Election → List ℕ
party_column b e = sum_over e axis.Party (fact_column b e facts.Counted)

-- the seats of a party's lists in the table, and those of each party
abbrev pub party_seats : SeatTable → ℕ → ℕ
party_seats t party = sum_by (λ s. s.seats) (filter (λ s. nat_eq s.party party) t.lists)

abbrev pub seats_column : Election → SeatTable → List ℕ
seats_column e t = by_party e (party_seats t)

-- the seats of a party's lists in the base, before any overhang
abbrev pub base_of_party : Election → List ℕ → ℕ → ℕ
base_of_party e base party = sum (cells e (lists_of_party e party) base)

-- in each table the parties have an allocation, by Webster's method, of the house without the independents
abbrev pub AlwaysByWebster : BookTree → Type 0
AlwaysByWebster b =
    (e : Election) (t : SeatTable) → IsElection e → Means b e (outcome.Table t) →
    IsDivisorAllocation Webster (party_column b e) (no_minima (party_column b e)) (house_of b e - independents e) (seats_column e t)

-- a list has more votes than in these returns: more counted ones, and no fewer valid ones
pub record IsGain (e : Election) (land party : ℕ) (votes : ListVotes) : Type 0 where
  pub before : ListVotes
  pub had : list_at e land party ≡ Some before
  pub is : IsListVotes votes
  pub counted : before.counted < votes.counted
  pub valid : before.valid ≤ votes.valid

-- with more votes for one of its lists, and all else equal but the lots, a party has no fewer seats
abbrev pub NeverLosesByVotes : BookTree → Type 0
NeverLosesByVotes b =
    (e : Election) (land party : ℕ) (votes : ListVotes) → IsElection e → IsGain e land party votes →
    (lots : List Lot) → IsElection (record (with_list e land party votes) { lots = lots }) →
    (t u : SeatTable) → Means b e (outcome.Table t) → Means b (record (with_list e land party votes) { lots = lots }) (outcome.Table u) →
    party_seats t party ≤ party_seats u party

-- ---- the laws

abbrev pub PartiesOf2023 : Type 0
PartiesOf2023 = (at : ℕ → ℕ) → AlwaysByWebster (law_of_2023 at) × AlwaysByWebster (law_of_2023_order at)

abbrev pub VotesOf2023 : Type 0
VotesOf2023 = (at : ℕ → ℕ) → NeverLosesByVotes (law_of_2023 at) × NeverLosesByVotes (law_of_2023_order at)
