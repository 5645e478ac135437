-- How the house grows by the statute of 2013, and how the parties stand to each other in it, whatever the offsets in its text. Each law is
-- the contract of a function of `laws`.
use Rattle.std.specs.Prelude.{◌≡◌, ℕ, ◌+◌, ◌-◌, ◌<◌, ◌≤◌, List, All, sum, slice_index, codes}
use Rattle.sl_base_quotients.specs.declared.method.Divisor.TheVariants.{Webster}
use Rattle.sl_base_terms.specs.declared.shape.Shape.TheVariants as shape
use Rattle.sl_law_meaning.specs.declared.book.Axis.TheVariants as axis
use Rattle.sl_law_meaning.specs.declared.book.Pairing.TheVariants as pairings
use Rattle.sl_law_meaning.specs.declared.fact.Fact.TheVariants as facts
use Rattle.sl_law_meaning.specs.declared.table.Outcome.TheVariants as outcome
use Rattle.sl_law_meaning.specs.book.Trees.{name, BookTree}
use Rattle.sl_law_meaning.specs.returns.Election.{Election, IsElection, lands_of}
use Rattle.sl_law_meaning.specs.methods.Field.{InField, no_minima}
use Rattle.sl_law_meaning.specs.methods.Allocations.{IsDivisorAllocation}
use Rattle.sl_law_meaning.specs.methods.LeastHouse.{GrownTo, IsGrowth, IsGrownAllocation}
use Rattle.sl_law_meaning.specs.meaning.Columns.{IsLeaf, fact_column, pair_of, sum_over}
use Rattle.sl_law_meaning.specs.meaning.Scopes.{cells, entries_of, lists_in_land}
use Rattle.sl_law_meaning.specs.meaning.Tables.{SeatTable}
use Rattle.sl_law_meaning.specs.meaning.Means.{Known, Through, nothing_known, StagesMean, Means}
use Rattle.sl_law_fairness.specs.ClosedHouse.{IsGreatestNeed}
use Rattle.sl_law_fairness.specs.Parts.{part}
use Rattle.sl_law_fairness.specs.Winners.{IsBase, overhang, outside, total_seats}
use Rattle.sl_law_statutes.specs.Trees.{law_of_2013}
use Rattle.sl_law_statutes.specs.Houses.{house_of}
use Rattle.sl_law_statutes.specs.Parties.{party_column, seats_column}

-- the column of a stage, after the stages of the book
pub record IsStage (b : BookTree) (e : Election) (stage column : List ℕ) : Type 0 where
  pub known : Known
  pub through : StagesMean b e nothing_known b.stages (Through known)
  pub is : IsLeaf b e known.columns (name 0 stage) column

-- what each party must have: the Länder share the house by their people, the lists of a Land its seats, without its winners outside, by their
-- votes, and a party has the sum of the larger of these and its winners, list by list
pub record IsFloor (b : BookTree) (e : Election) (floor : List ℕ) : Type 0 where
  pub lands : List ℕ
  pub by_people :
      let people = cells e (entries_of e shape.Land) (fact_column b e facts.Population) in
      IsDivisorAllocation Webster people (no_minima people) (house_of b e) (cells e (entries_of e shape.Land) lands)
  pub first : List ℕ
  pub by_votes : (land : ℕ) → land < lands_of e →
      let votes = cells e (lists_in_land e land) (fact_column b e facts.Counted) in
      IsDivisorAllocation Webster votes (no_minima votes) (slice_index (pair_of pairings.Less lands (fact_column b e facts.Outside)) land) (cells e (lists_in_land e land) first)
  pub of_lists : floor ≡ sum_over e axis.Party (pair_of pairings.Larger first (fact_column b e facts.Winners))

-- the house grows until it has room for all winners of lists: there is no overhang, and the total is the house with the winners outside
pub record GrowsToFit (b : BookTree) (e : Election) (t : SeatTable) : Type 0 where
  -- what each party must have, the stage `floor`
  pub floor : List ℕ
  pub is_stage : IsStage b e (codes "floor") floor
  pub is_floor : IsFloor b e floor
  -- the least house, from the pool up to 4000 seats, whose allocations all give each party that
  pub house : ℕ
  pub least : IsGrowth Webster (party_column b e) floor (house_of b e - outside b e) 4000 (GrownTo house)
  -- in closed form: the greatest of the pool and of what each party needs for its floor
  pub greatest : IsGreatestNeed (party_column b e) floor (house_of b e - outside b e) house
  -- the parties have an allocation of it, and their lists share it
  pub parties : IsGrownAllocation Webster (party_column b e) floor house (seats_column e t)
  pub base : List ℕ
  pub is_base : IsBase b e base
  pub lists : sum base ≡ house
  pub no_overhang : overhang b e base ≡ 0
  pub total : total_seats t ≡ house + outside b e
  pub no_smaller : house_of b e ≤ total_seats t

abbrev pub HouseOf2013 : Type 0
HouseOf2013 = (at : ℕ → ℕ) (e : Election) (t : SeatTable) → IsElection e → Means (law_of_2013 at) e (outcome.Table t) → GrowsToFit (law_of_2013 at) e t

-- any parties with votes have among them an allocation, by Webster's method without minima, of the seats that they have
abbrev pub PartiesOf2013 : Type 0
PartiesOf2013 =
    (at : ℕ → ℕ) (e : Election) (t : SeatTable) → IsElection e → Means (law_of_2013 at) e (outcome.Table t) →
    (some : List ℕ) → All (InField (party_column (law_of_2013 at) e)) some →
    let votes = part some (party_column (law_of_2013 at) e) in
    IsDivisorAllocation Webster votes (no_minima votes) (sum (part some (seats_column e t))) (part some (seats_column e t))
