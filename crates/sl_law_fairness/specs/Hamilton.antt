-- What Hamilton's method keeps: what holds where no other entry changes, within an allocation, and by the sum of the deviations.
-- Each law is the contract of a function of `laws`.
use Rattle.std.specs.Prelude.{◌≡◌, ◌≢◌, ℕ, ◌+◌, ◌-◌, ◌*◌, ◌<◌, ◌≤◌, Bool, false, List, [], ◌∷◌, length, sum, slice_index}
use Rattle.sl_law_meaning.specs.methods.Hamilton.{IsHamiltonAllocation}

-- i gained votes and the others have what they had: it has no fewer seats, with preference for a majority or without
abbrev pub HamiltonVotes : Type 0
HamiltonVotes =
    (prefer : Bool) (v w : List ℕ) (seats : ℕ) (s t : List ℕ) → length w ≡ length v →
    IsHamiltonAllocation prefer v seats s → IsHamiltonAllocation prefer w seats t →
    (i : ℕ) → slice_index v i < slice_index w i → ((j : ℕ) → j ≢ i → slice_index w j ≡ slice_index v j) →
    slice_index s i ≤ slice_index t i

-- more votes have no fewer seats
abbrev pub HamiltonOrdered : Type 0
HamiltonOrdered =
    (prefer : Bool) (v : List ℕ) (seats : ℕ) (s : List ℕ) → IsHamiltonAllocation prefer v seats s →
    (i j : ℕ) → slice_index v j < slice_index v i → slice_index s j ≤ slice_index s i

-- how far two numbers are apart
abbrev pub apart : ℕ → ℕ → ℕ
apart a b = (a - b) + (b - a)

-- the sum of what the seats deviate from the shares, times all votes
abbrev pub deviation : (votes seats : ℕ) → (v s : List ℕ) → ℕ
deviation votes seats [] s = 0
deviation votes seats (x ∷ v) [] = 0
deviation votes seats (x ∷ v) (a ∷ s) = apart (votes * a) (seats * x) + deviation votes seats v s

-- no other list of so many seats has a smaller one
abbrev pub HamiltonLeastDeviation : Type 0
HamiltonLeastDeviation =
    (v : List ℕ) (seats : ℕ) (s : List ℕ) → IsHamiltonAllocation false v seats s → (t : List ℕ) → length t ≡ length v → sum t ≡ seats →
    deviation (sum v) seats v s ≤ deviation (sum v) seats v t

-- and where there are votes, what has the least is an allocation
abbrev pub LeastDeviationIsHamilton : Type 0
LeastDeviationIsHamilton =
    (v : List ℕ) (seats : ℕ) (s : List ℕ) → 0 < sum v → length s ≡ length v → sum s ≡ seats →
    ((t : List ℕ) → length t ≡ length v → sum t ≡ seats → deviation (sum v) seats v s ≤ deviation (sum v) seats v t) → IsHamiltonAllocation false v seats s
