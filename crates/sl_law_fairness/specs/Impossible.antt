-- No method has it all: within quota, ordered, and fair to votes that grow (Balinski and Young, Fair Representation, appendix A).
-- Each law is the contract of a function of `laws`. A method is here any function that picks seats for votes and a house.
use Rattle.std.specs.Prelude.{◌≡◌, ℕ, ◌*◌, ◌<◌, ◌≤◌, List, length, sum, slice_index, slice_set}
use Rattle.sl_law_meaning.specs.methods.Hamilton.{whole}
use Rattle.sl_law_fairness.specs.Quota.{raised_whole}

-- where there are votes, it distributes the seats, and each entry has its share rounded down or up
abbrev pub StaysWithinQuota : (List ℕ → ℕ → List ℕ) → Type 0
StaysWithinQuota f =
    (v : List ℕ) (seats : ℕ) → 0 < sum v →
    (length (f v seats) ≡ length v) × (sum (f v seats) ≡ seats)
    × ((i : ℕ) → (whole v seats i ≤ slice_index (f v seats) i) × (slice_index (f v seats) i ≤ raised_whole v seats i))

-- more votes have no fewer seats
abbrev pub KeepsOrder : (List ℕ → ℕ → List ℕ) → Type 0
KeepsOrder f =
    (v : List ℕ) (seats i j : ℕ) → slice_index v j < slice_index v i → slice_index (f v seats) j ≤ slice_index (f v seats) i

-- the votes of i grew by a larger factor than those of j: i does not lose a seat while j gets one more
abbrev pub IsPopulationMonotone : (List ℕ → ℕ → List ℕ) → Type 0
IsPopulationMonotone f =
    (v w : List ℕ) (seats i j : ℕ) → slice_index v i * slice_index w j < slice_index w i * slice_index v j →
    slice_index (f w seats) i < slice_index (f v seats) i → slice_index (f w seats) j ≤ slice_index (f v seats) j

abbrev pub Impossibility : Type 0
Impossibility = (f : List ℕ → ℕ → List ℕ) → StaysWithinQuota f → KeepsOrder f → IsPopulationMonotone f → ⊥

-- entries i and j have what the other had
abbrev pub exchanged : List ℕ → ℕ → ℕ → List ℕ
exchanged xs i j = slice_set (slice_set xs i (slice_index xs j)) j (slice_index xs i)

-- two entries that exchange their votes exchange their seats
abbrev pub TreatsAlike : (List ℕ → ℕ → List ℕ) → Type 0
TreatsAlike f =
    (v : List ℕ) (seats i j : ℕ) → i < length v → j < length v → f (exchanged v i j) seats ≡ exchanged (f v seats) i j

-- so in place of the order it is enough that entries are treated alike
abbrev pub ImpossibilityAlike : Type 0
ImpossibilityAlike = (f : List ℕ → ℕ → List ℕ) → StaysWithinQuota f → TreatsAlike f → IsPopulationMonotone f → ⊥
