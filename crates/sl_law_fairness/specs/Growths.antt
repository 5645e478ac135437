-- Houses grown until every allocation meets the minima (docs/methods.md, section 5).
-- Each law is the contract of a function of `laws`.
use Rattle.std.specs.Prelude.{◌≡◌, ℕ, ◌≤◌, List, All, length, sum, slice_index}
use Rattle.sl_base_quotients.specs.declared.method.Divisor.{Divisor}
use Rattle.sl_law_meaning.specs.methods.Field.{InField, IsEmptyField, no_minima}
use Rattle.sl_law_meaning.specs.methods.Allocations.{IsDivisorAllocation}
use Rattle.sl_law_meaning.specs.methods.LeastHouse.{outside_sum, GrownTo, IsGrowth, IsGrownAllocation}
use Rattle.sl_law_fairness.specs.Parts.{part}

-- every allocation of the house meets each minimum, in the field and outside it
abbrev pub MeetsEach : Divisor → List ℕ → List ℕ → ℕ → Type 0
MeetsEach method v m house = (s : List ℕ) → IsGrownAllocation method v m house s → (i : ℕ) → slice_index m i ≤ slice_index s i

-- a house that is grown to meets each minimum, and no smaller one does that has the first seats and those outside the field
abbrev pub GrownHouseMeets : Type 0
GrownHouseMeets =
    (method : Divisor) (v m : List ℕ) → length m ≡ length v → (seats cap house : ℕ) →
    IsGrowth method v m seats cap (GrownTo house) →
    MeetsEach method v m house
    × ((h : ℕ) → seats ≤ h → outside_sum v m ≤ h → MeetsEach method v m h → house ≤ h)

-- a first house that meets each minimum stays as it is
abbrev pub GrowthStays : Type 0
GrowthStays =
    (method : Divisor) (v m : List ℕ) → length m ≡ length v → (seats cap : ℕ) →
    ¬ IsEmptyField v → outside_sum v m ≤ seats → seats ≤ cap →
    MeetsEach method v m seats → IsGrowth method v m seats cap (GrownTo seats)

-- in a house grown to, any entries with votes have among them an allocation without minima of the seats that they have
abbrev pub GrownByVotes : Type 0
GrownByVotes =
    (method : Divisor) (v m : List ℕ) (house : ℕ) (s : List ℕ) → IsGrownAllocation method v m house s →
    (entries : List ℕ) → All (InField v) entries →
    IsDivisorAllocation method (part entries v) (no_minima (part entries v)) (sum (part entries s)) (part entries s)

-- with a house that meets each minimum and has those outside the field, each larger one does
abbrev pub LargerHouseMeets : Type 0
LargerHouseMeets =
    (method : Divisor) (v m : List ℕ) → length m ≡ length v → (h k : ℕ) →
    outside_sum v m ≤ h → MeetsEach method v m h → h ≤ k → MeetsEach method v m k
