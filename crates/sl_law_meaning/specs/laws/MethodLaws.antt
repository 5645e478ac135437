-- The laws of the definitions (docs/methods.md, sections 2 to 5 and 8). Each is the contract of a function of `laws`.
use Rattle.std.specs.Prelude.{◌≡◌, ℕ, ◌<◌, ◌≤◌, ◌↔◌, Bool, List, length, sum, slice_index}
use Rattle.sl_base_quotients.specs.declared.method.Divisor.{Divisor}
use Rattle.sl_law_meaning.specs.methods.Field.{IsEmptyField}
use Rattle.sl_law_meaning.specs.methods.Allocations.{IsDivisorAllocation}
use Rattle.sl_law_meaning.specs.methods.Hamilton.{IsHamiltonAllocation}
use Rattle.sl_law_meaning.specs.methods.Covering.{IsCovering}
use Rattle.sl_law_meaning.specs.methods.Ties.{IsWellDefined}
use Rattle.sl_law_meaning.specs.methods.LeastHouse.{Growth, IsGrowth}

-- the field is empty exactly where the weights sum to 0
abbrev pub EmptyFields : Type 0
EmptyFields = (v : List ℕ) → IsEmptyField v ↔ (sum v ≡ 0)

-- the set has members exactly where P holds, and is well-defined there
abbrev pub IsWellDefinedWhere : Type 0 → (List ℕ → Type 0) → Type 0
IsWellDefinedWhere P X = (((s : List ℕ) × X s) ↔ P) × (P → IsWellDefined X)

-- A(seats, v, m): where the minima sum to at most the seats, and to exactly the seats if the field is empty
abbrev pub DivisorAllocations : Type 0
DivisorAllocations =
    (method : Divisor) (v m : List ℕ) (seats : ℕ) → length m ≡ length v →
    IsWellDefinedWhere ((sum m ≤ seats) × (IsEmptyField v → sum m ≡ seats)) (IsDivisorAllocation method v m seats)

-- H(seats, v): where the field is not empty or there are no seats
abbrev pub HamiltonAllocations : Type 0
HamiltonAllocations =
    (prefer : Bool) (v : List ℕ) (seats : ℕ) →
    IsWellDefinedWhere (IsEmptyField v → seats ≡ 0) (IsHamiltonAllocation prefer v seats)

-- each winner has a vote
abbrev pub AllHaveVotes : List ℕ → Type 0
AllHaveVotes first = (i : ℕ) → i < length first → 0 < slice_index first i

-- the sets of winners to be seated: where there are no more seats than winners. With a seat for each winner all are seated
abbrev pub Coverings : Type 0
Coverings =
    (first valid : List ℕ) (seats : ℕ) → AllHaveVotes first →
    IsWellDefinedWhere (seats ≤ length first) (IsCovering first valid seats)

abbrev pub FullCoverings : Type 0
FullCoverings =
    (first valid s : List ℕ) → IsCovering first valid (length first) s → (i : ℕ) → i < length first → slice_index s i ≡ 1

-- each growth yields exactly one thing
abbrev pub Growths : Type 0
Growths =
    (method : Divisor) (v m : List ℕ) (seats cap : ℕ) →
    (g : Growth) × IsGrowth method v m seats cap g × ((h : Growth) → IsGrowth method v m seats cap h → h ≡ g)
