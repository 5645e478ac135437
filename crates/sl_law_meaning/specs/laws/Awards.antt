-- The laws of awards by batches of equal ranks, for any falling ladders (docs/methods.md, section 7), and how the allocations, the
-- sets of winners and the least house follow from them. Each is the contract of a function of `laws`.
use Rattle.std.specs.Prelude.{◌≡◌, ℕ, ◌+◌, ◌-◌, ◌<◌, ◌≤◌, ◌↔◌, Bool, List, [], ◌∷◌, ◌++◌, length, sum, slice_index, Contains, max}
use Rattle.sl_base_quotients.specs.declared.method.Divisor.{Divisor}
use Rattle.sl_law_meaning.specs.methods.Field.{InField, no_minima}
use Rattle.sl_law_meaning.specs.methods.Allocations.{IsDivisorAllocation}
use Rattle.sl_law_meaning.specs.methods.Hamilton.{whole, whole_parts, IsHamiltonAllocation}
use Rattle.sl_law_meaning.specs.methods.Covering.{IsCovering}
use Rattle.sl_law_meaning.specs.methods.Ties.{Distinct, Lists, Choice, Decided, Tied, NamesAll, drawn, IsChoice, IsWellDefined}
use Rattle.sl_law_meaning.specs.methods.LeastHouse.{outside_minima, outside_sum, Meets, AllMeet, GrownTo, AboveCap, IsGrowth, IsGrownAllocation, Serves}
use Rattle.sl_law_meaning.specs.methods.Steps.{step_of}
use Rattle.sl_law_meaning.specs.laws.Ladders.{Ladders, Has, AreFalling, IsTop, IsSettled, IsPeer, HasRoom, Raises, RaisesEach}
use Rattle.sl_law_meaning.specs.laws.Ladders.{divisor_ladders, hamilton_ladders, covering_ladders}
use Rattle.sl_law_meaning.specs.laws.MethodLaws.{AllHaveVotes}

-- what a lot that names all of these entries draws next, when it has drawn k of them: the entry that stands first in it of those
-- that are left
pub record DrawsNext (lot entries : List ℕ) (k : ℕ) : Type 0 where
  pub entry : ℕ
  pub one_of : Contains entries entry
  pub left : ¬ Contains (drawn lot k entries) entry
  pub place : ℕ
  pub stands : (place < length lot) × (slice_index lot place ≡ entry)
  pub first : (p : ℕ) → p < place → Contains entries (slice_index lot p) → Contains (drawn lot k entries) (slice_index lot p)
  pub drawn_too : drawn lot (k + 1) entries ≡ drawn lot k entries ++ entry ∷ []

abbrev pub Draws : Type 0
Draws =
    (lot entries : List ℕ) (k : ℕ) → Distinct lot → Distinct entries → NamesAll lot entries → k < length entries →
    DrawsNext lot entries k

-- what is known of a settled vector
pub record SettledLaws (l : Ladders) (s : List ℕ) : Type 0 where
  -- it is the only top of its seats, so it is the choice
  pub alone : (t : List ℕ) → IsTop l (sum s) t ↔ (t ≡ s)
  pub choice : (lot : List ℕ) → IsChoice (IsTop l (sum s)) lot (Decided s)
  -- with more seats no entry has fewer, and with fewer seats none has more
  pub below : (seats : ℕ) (t : List ℕ) → IsTop l seats t → sum s ≤ seats → (i : ℕ) → slice_index s i ≤ slice_index t i
  pub above : (seats : ℕ) (t : List ℕ) → IsTop l seats t → seats ≤ sum s → (i : ℕ) → slice_index t i ≤ slice_index s i

-- what is known of a settled vector and its peers
pub record BatchLaws (l : Ladders) (s peers : List ℕ) : Type 0 where
  -- there are peers as long as there is a next seat
  pub more : (i : ℕ) → Has l i (slice_index s i) → 0 < length peers
  -- up to one seat for each peer, the tops raise that many of the peers
  pub some : (r : ℕ) → r ≤ length peers → (t : List ℕ) → IsTop l (sum s + r) t ↔ Raises peers r s t
  -- once some of the peers have got their seat, the others are the peers
  pub left : (given t : List ℕ) → ((i : ℕ) → Contains given i → Contains peers i) → RaisesEach given s t →
      (i : ℕ) → Contains peers i → ¬ Contains given i → (j : ℕ) → IsPeer l t j ↔ (Contains peers j × ¬ Contains given j)
  -- with one seat for each peer the vector is settled again
  pub all : (t : List ℕ) → RaisesEach peers s t → IsSettled l t × (sum t ≡ sum s + length peers)
  -- with fewer, a lot that names all peers decides, and without one they are tied
  pub drawn_ones : (r : ℕ) → 0 < r → r < length peers → (lot : List ℕ) → Distinct lot → NamesAll lot peers →
      (t : List ℕ) → RaisesEach (drawn lot r peers) s t → IsChoice (IsTop l (sum s + r)) lot (Decided t)
  pub tied_ones : (r : ℕ) → 0 < r → r < length peers → (lot : List ℕ) → ¬ NamesAll lot peers →
      IsChoice (IsTop l (sum s + r)) lot (Tied r peers)
  -- in every later top the seats of this batch have the step one plus the number of seats awarded before
  pub step : (seats : ℕ) (t : List ℕ) (i : ℕ) → IsTop l seats t → sum s < seats → Contains peers i →
      step_of l.rank l.base t i (slice_index s i) ≡ 1 + (sum s - sum l.base)

-- awards by batches of equal ranks, from the base on
pub record LadderLaws (l : Ladders) : Type 0 where
  pub begin : IsSettled l l.base
  pub peers : (s : List ℕ) → (peers : List ℕ) × Lists (IsPeer l s) peers
  pub settled : (s : List ℕ) → IsSettled l s → SettledLaws l s
  pub batch : (s peers : List ℕ) → IsSettled l s → Lists (IsPeer l s) peers → BatchLaws l s peers
  pub well_defined : (seats : ℕ) → sum l.base ≤ seats → HasRoom l seats → IsWellDefined (IsTop l seats)

abbrev pub Batches : Type 0
Batches = (l : Ladders) → AreFalling l → LadderLaws l

-- the divisor allocations are the tops of their ladders
pub record DivisorTops (method : Divisor) (v m : List ℕ) : Type 0 where
  pub falling : AreFalling (divisor_ladders method v m)
  pub room : (seats : ℕ) → (i : ℕ) → InField v i → HasRoom (divisor_ladders method v m) seats
  pub tops : (seats : ℕ) (s : List ℕ) → IsDivisorAllocation method v m seats s ↔ IsTop (divisor_ladders method v m) seats s
  pub choice : (seats : ℕ) (lot : List ℕ) (c : Choice) →
      IsChoice (IsTop (divisor_ladders method v m) seats) lot c ↔ IsChoice (IsDivisorAllocation method v m seats) lot c

abbrev pub DivisorLadders : Type 0
DivisorLadders = (method : Divisor) (v m : List ℕ) → length m ≡ length v → DivisorTops method v m

-- so are the Hamilton allocations
pub record HamiltonTops (prefer : Bool) (v : List ℕ) (seats : ℕ) : Type 0 where
  pub falling : AreFalling (hamilton_ladders prefer v seats)
  pub wholes : (i : ℕ) → slice_index (whole_parts v seats) i ≡ whole v seats i
  pub within : sum (whole_parts v seats) ≤ seats
  pub room : (i : ℕ) → InField v i → HasRoom (hamilton_ladders prefer v seats) seats
  pub tops : (s : List ℕ) → IsHamiltonAllocation prefer v seats s ↔ IsTop (hamilton_ladders prefer v seats) seats s
  pub choice : (lot : List ℕ) (c : Choice) →
      IsChoice (IsTop (hamilton_ladders prefer v seats) seats) lot c ↔ IsChoice (IsHamiltonAllocation prefer v seats) lot c

abbrev pub HamiltonLadders : Type 0
HamiltonLadders = (prefer : Bool) (v : List ℕ) (seats : ℕ) → HamiltonTops prefer v seats

-- and the sets of winners to be seated
pub record CoveringTops (first valid : List ℕ) : Type 0 where
  pub falling : AreFalling (covering_ladders first valid)
  pub room : (seats : ℕ) → seats ≤ length first → HasRoom (covering_ladders first valid) seats
  pub tops : (seats : ℕ) (s : List ℕ) → IsCovering first valid seats s ↔ IsTop (covering_ladders first valid) seats s
  pub choice : (seats : ℕ) (lot : List ℕ) (c : Choice) →
      IsChoice (IsTop (covering_ladders first valid) seats) lot c ↔ IsChoice (IsCovering first valid seats) lot c

abbrev pub CoveringLadders : Type 0
CoveringLadders = (first valid : List ℕ) → AllHaveVotes first → CoveringTops first valid

-- the ladders of a divisor method without minima
abbrev pub free_ladders : Divisor → List ℕ → Ladders
free_ladders method v = divisor_ladders method v (no_minima v)

-- what settled vectors without minima say of the houses in which all allocations meet the minima
pub record GrowthLaws (method : Divisor) (v m : List ℕ) : Type 0 where
  -- from a settled vector that meets them on, all do
  pub met : (s : List ℕ) → IsSettled (free_ladders method v) s → Meets v m s →
      (seats : ℕ) → sum s ≤ seats → AllMeet method v m seats
  -- if it does not, some do not before there is a seat for each of its peers
  pub unmet : (s peers : List ℕ) → IsSettled (free_ladders method v) s → Lists (IsPeer (free_ladders method v) s) peers →
      (i : ℕ) → InField v i → slice_index s i < slice_index m i →
      (seats : ℕ) → AllMeet method v m seats → sum s + length peers ≤ seats
  -- so the first that meets them has the least number of seats with which all do
  pub first : (s peers : List ℕ) → IsSettled (free_ladders method v) s → Lists (IsPeer (free_ladders method v) s) peers →
      (i : ℕ) → InField v i → slice_index s i < slice_index m i →
      (t : List ℕ) → RaisesEach peers s t → Meets v m t → (seats : ℕ) → AllMeet method v m seats ↔ (sum t ≤ seats)
  -- and the least number, or a bound on it, gives the house, or shows that there is none up to the cap
  pub house : (least : ℕ) → ((seats : ℕ) → AllMeet method v m seats ↔ (least ≤ seats)) → (i : ℕ) → InField v i →
      (seats cap : ℕ) → max seats (outside_sum v m + least) ≤ cap →
      IsGrowth method v m seats cap (GrownTo (max seats (outside_sum v m + least)))
  pub above_cap : (low : ℕ) → ((seats : ℕ) → AllMeet method v m seats → low ≤ seats) → (i : ℕ) → InField v i →
      (seats cap : ℕ) → cap < max seats (outside_sum v m + low) → IsGrowth method v m seats cap AboveCap
  -- the allocations of a house that serves meet all minima, so the minima sum to no more
  pub one_each : length (outside_minima v m) ≡ length v
  pub seats_meet : (seats cap house : ℕ) → Serves method v m seats cap house →
      (s : List ℕ) → IsGrownAllocation method v m house s → (i : ℕ) → slice_index m i ≤ slice_index s i
  pub minima_fit : (seats cap house : ℕ) → Serves method v m seats cap house → (i : ℕ) → InField v i → sum m ≤ house

abbrev pub GrowthBatches : Type 0
GrowthBatches = (method : Divisor) (v m : List ℕ) → length m ≡ length v → GrowthLaws method v m
