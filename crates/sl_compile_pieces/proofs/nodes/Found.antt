-- The least number of seats with which all minima of the field are met, as batches of peers find it, and what a growth comes to by it.
use Rattle.std.proofs.Common.{◌≡◌, ◌↔◌, ℕ, ◌+◌, ◌<◌, ◌≤◌, max, List, [], length, sum, sym, subst, arith}
use Rattle.std.specs.Prelude.{slice_index}
use Rattle.sl_base_quotients.specs.declared.method.Divisor.{Divisor}
use Rattle.sl_law_meaning.specs.methods.Field.{InField, no_minima}
use Rattle.sl_law_meaning.specs.methods.LeastHouse.{outside_sum, AllMeet, GrownTo, AboveCap, IsGrowth}
use Rattle.sl_law_meaning.specs.methods.Ties.{Lists}
use Rattle.sl_law_meaning.specs.laws.Ladders.{AreFalling, IsSettled, IsPeer}
use Rattle.sl_law_meaning.specs.laws.Awards.{GrowthLaws, free_ladders}
use Rattle.sl_law_meaning.specs.laws.Walks.{MidBatch}
use Rattle.sl_law_meaning.proofs.methods.DivisorProofs.{has_of, divisor_ladders_law}
use Rattle.sl_law_meaning.proofs.methods.DrawnLots.{fits_in}
use Rattle.sl_law_meaning.proofs.methods.HouseProofs.{growth_batches}
use Rattle.sl_law_meaning.proofs.methods.LadderProofs.{batches}
use Rattle.sl_law_meaning.proofs.methods.RaisedSeats.{increasing_distinct}
use Rattle.sl_law_meaning.proofs.methods.SeatSums.{length_zeros, sum_zeros}
use Rattle.sl_law_meaning.proofs.methods.WalkProofs.{walks}
use Rattle.sl_compile_pieces.proofs.nodes.Meeting.{missing, none_missing, some_missing}

-- an entry of the field has less than its minimum
pub record IsShort (v m s : List ℕ) : Type 0 where
  pub entry : ℕ
  pub in_field : InField v entry
  pub less : slice_index s entry < slice_index m entry

-- t has the least number of seats with which all allocations meet the minima
pub record IsLeast (d : Divisor) (v m t : List ℕ) : Type 0 where
  pub met : (seats : ℕ) → AllMeet d v m seats ↔ (sum t ≤ seats)

-- so it has, and it meets them
pub record IsFound (d : Divisor) (v m t : List ℕ) : Type 0 where
  pub none_missing : missing v m t ≡ 0
  pub least : IsLeast d v m t

module _ (d : Divisor) (v m : List ℕ) (one_each : length m ≡ length v) where
  laws : GrowthLaws d v m
  laws = growth_batches d v m one_each

  falling : AreFalling (free_ladders d v)
  falling = (divisor_ladders_law d v (no_minima v) (length_zeros (length v))).falling

  long : (t : List ℕ) → IsSettled (free_ladders d v) t → length t ≡ length v
  long t settled = let same = settled.on.same_length in omega (arith, same, length_zeros (length v))

  pub is_short : (t : List ℕ) → length t ≡ length v → 0 < missing v m t → IsShort v m t
  is_short t same some =
      let found : (i : ℕ) × InField v i × (slice_index t i < slice_index m i) = some_missing v m one_each t same some in
      record { entry = found.0; in_field = found.1; less = found.2 }

  -- an entry that is short has a next seat, so there are peers
  pub peers_there : (t peers : List ℕ) → IsSettled (free_ladders d v) t → Lists (IsPeer (free_ladders d v) t) peers → IsShort v m t → 0 < length peers
  peers_there t peers settled listed short =
      ((batches (free_ladders d v) falling).batch t peers settled listed).more short.entry (has_of d v (no_minima v) short.entry (slice_index t short.entry) short.in_field)

  -- ---- the least number

  -- the vector from which the search begins
  pub least_at_first : missing v m (no_minima v) ≡ 0 → IsLeast d v m (no_minima v)
  least_at_first none =
      let settled : IsSettled (free_ladders d v) (no_minima v) = (batches (free_ladders d v) falling).begin in
      record {
        met = λ seats. (
          λ all. omega (arith, sum_zeros (length v)),
          laws.met (no_minima v) settled (none_missing v m one_each (no_minima v) (length_zeros (length v)) none) seats,
        );
      }

  few_given : (s peers given u : List ℕ) → MidBatch (free_ladders d v) s peers given u → length given ≤ length peers
  few_given s peers given u mid = fits_in given peers mid.distinct (increasing_distinct peers mid.listed.in_order) mid.some

  -- a settled vector that meets the minima, where the one before did not
  pub least_after : (s peers given u : List ℕ) → MidBatch (free_ladders d v) s peers given u → IsShort v m s → IsSettled (free_ladders d v) u → missing v m u ≡ 0
      → IsLeast d v m u
  least_after s peers given u mid short settled none =
      let total : sum u ≡ sum s + length given = ((walks (free_ladders d v) falling).within s peers given u mid).total in
      let few : length given ≤ length peers = few_given s peers given u mid in
      record {
        met = λ seats. (
          λ all. let low : sum s + length peers ≤ seats = laws.unmet s peers mid.settled mid.listed short.entry short.in_field short.less seats all in omega (arith, low, total, few),
          laws.met u settled (none_missing v m one_each u (long u settled) none) seats,
        );
      }

  -- ---- what the growth comes to

  module _ (i : ℕ) (f : InField v i) (seats cap : ℕ) where
    pub grows_to : (t : List ℕ) (house : ℕ) → IsLeast d v m t → house ≡ max seats (outside_sum v m + sum t) → house ≤ cap → IsGrowth d v m seats cap (GrownTo house)
    grows_to t house least is within =
        let low : max seats (outside_sum v m + sum t) ≤ cap = omega (arith, is, within) in
        subst (λ (n : ℕ). IsGrowth d v m seats cap (GrownTo n)) (sym is) (laws.house (sum t) least.met i f seats cap low)

    pub above_least : (t : List ℕ) → IsLeast d v m t → cap < max seats (outside_sum v m + sum t) → IsGrowth d v m seats cap AboveCap
    above_least t least over = laws.above_cap (sum t) (λ h all. (least.met h).0 all) i f seats cap over

    -- with all seats given, some of the peers of a batch have not got theirs
    pub above_within : (s peers given t : List ℕ) → MidBatch (free_ladders d v) s peers given t → IsShort v m s → length given < length peers → sum t ≡ cap
        → IsGrowth d v m seats cap AboveCap
    above_within s peers given t mid short fewer all_given =
        laws.above_cap (sum s + length peers) (λ h all. laws.unmet s peers mid.settled mid.listed short.entry short.in_field short.less h all) i f seats cap
        (omega (arith, ((walks (free_ladders d v) falling).within s peers given t mid).total, fewer, all_given))

    -- with all seats given between two batches, a minimum is not met
    pub above_between : (t : List ℕ) → IsSettled (free_ladders d v) t → 0 < missing v m t → sum t ≡ cap → IsGrowth d v m seats cap AboveCap
    above_between t settled some all_given =
        let short : IsShort v m t = is_short t (long t settled) some in
        let next : (peers : List ℕ) × Lists (IsPeer (free_ladders d v) t) peers = (batches (free_ladders d v) falling).peers t in
        let mid : MidBatch (free_ladders d v) t next.0 [] t = (walks (free_ladders d v) falling).begin t next.0 settled next.1 in
        above_within t next.0 [] t mid short (omega (arith, peers_there t next.0 settled next.1 short)) all_given
