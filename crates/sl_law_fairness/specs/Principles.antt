-- The organizing principles of apportionment (Pukelsheim, Proportional Representation, chapter 4). Each law is the contract of a function of
-- `laws`.
use Rattle.std.specs.Prelude.{◌≡◌, ◌↔◌, ℕ, ◌+◌, ◌*◌, ◌<◌, ◌≤◌, Bool, List, IsPermutation, length, map, sum, slice_index}
use Rattle.std.specs.List.{range_with_len}
use Rattle.sl_base_quotients.specs.declared.method.Divisor.{Divisor}
use Rattle.sl_law_meaning.specs.methods.Field.{no_minima}
use Rattle.sl_law_meaning.specs.methods.Allocations.{IsDivisorAllocation}
use Rattle.sl_law_meaning.specs.methods.Hamilton.{IsHamiltonAllocation}
use Rattle.sl_law_fairness.specs.Parts.{part}

-- equal votes and equal minima have seats that are at most one apart
abbrev pub Balanced : Type 0
Balanced =
    (method : Divisor) (v m : List ℕ) (seats : ℕ) (s : List ℕ) → IsDivisorAllocation method v m seats s →
    (i j : ℕ) → slice_index v i ≡ slice_index v j → slice_index m i ≡ slice_index m j → slice_index s i ≤ slice_index s j + 1

-- where seats are just the shares they are an allocation, by each method, and no other list is
abbrev pub Exact : Type 0
Exact =
    (method : Divisor) (v : List ℕ) (seats : ℕ) (s : List ℕ) →
    0 < sum v → length s ≡ length v → sum s ≡ seats → ((i : ℕ) → sum v * slice_index s i ≡ seats * slice_index v i) →
    IsDivisorAllocation method v (no_minima v) seats s
    × ((t : List ℕ) → IsDivisorAllocation method v (no_minima v) seats t → (i : ℕ) → slice_index t i ≡ slice_index s i)

-- votes that are all multiplied by a number have the same allocations
abbrev pub Homogeneous : Type 0
Homogeneous =
    (method : Divisor) (v m : List ℕ) (seats : ℕ) (s : List ℕ) (c : ℕ) → 0 < c →
    IsDivisorAllocation method v m seats s ↔ IsDivisorAllocation method (map (λ x. c * x) v) m seats s

-- entries in another order have their seats in that order
abbrev pub Anonymous : Type 0
Anonymous =
    (method : Divisor) (v m : List ℕ) (seats : ℕ) (s : List ℕ) → IsDivisorAllocation method v m seats s →
    (order : List ℕ) → IsPermutation (range_with_len 0 (length v)) order →
    IsDivisorAllocation method (part order v) (part order m) seats (part order s)

-- ---- by Hamilton's method, with preference for a majority or without

-- equal votes have seats that are at most one apart
abbrev pub HamiltonBalanced : Type 0
HamiltonBalanced =
    (prefer : Bool) (v : List ℕ) (seats : ℕ) (s : List ℕ) → IsHamiltonAllocation prefer v seats s →
    (i j : ℕ) → slice_index v i ≡ slice_index v j → slice_index s i ≤ slice_index s j + 1

-- where seats are just the shares they are an allocation, and no other list is
abbrev pub HamiltonExact : Type 0
HamiltonExact =
    (prefer : Bool) (v : List ℕ) (seats : ℕ) (s : List ℕ) →
    0 < sum v → length s ≡ length v → sum s ≡ seats → ((i : ℕ) → sum v * slice_index s i ≡ seats * slice_index v i) →
    IsHamiltonAllocation prefer v seats s × ((t : List ℕ) → IsHamiltonAllocation prefer v seats t → (i : ℕ) → slice_index t i ≡ slice_index s i)

-- votes that are all multiplied by a number have the same allocations
abbrev pub HamiltonHomogeneous : Type 0
HamiltonHomogeneous =
    (prefer : Bool) (v : List ℕ) (seats : ℕ) (s : List ℕ) (c : ℕ) → 0 < c →
    IsHamiltonAllocation prefer v seats s ↔ IsHamiltonAllocation prefer (map (λ x. c * x) v) seats s

-- entries in another order have their seats in that order
abbrev pub HamiltonAnonymous : Type 0
HamiltonAnonymous =
    (prefer : Bool) (v : List ℕ) (seats : ℕ) (s : List ℕ) → IsHamiltonAllocation prefer v seats s →
    (order : List ℕ) → IsPermutation (range_with_len 0 (length v)) order → IsHamiltonAllocation prefer (part order v) seats (part order s)
