-- How divisor allocations answer to a change of votes (Balinski and Young, Fair Representation, appendix A).
-- Each law is the contract of a function of `laws`.
use Rattle.std.specs.Prelude.{◌≡◌, ◌≢◌, ◌⊎◌, ◌↔◌, ℕ, ◌+◌, ◌*◌, ◌<◌, ◌≤◌, List, length, sum, slice_index}
use Rattle.sl_base_quotients.specs.declared.method.Divisor.{Divisor}
use Rattle.sl_base_quotients.specs.Quotient.{Quotient, quotient}
use Rattle.sl_law_meaning.specs.methods.Field.{InField}
use Rattle.sl_law_meaning.specs.methods.Allocations.{IsDivisorAllocation}
use Rattle.sl_law_meaning.specs.methods.Ties.{IsTied}

-- the quotient is no infinite one: under Webster and Jefferson each, under the others each but that of a first seat
abbrev pub IsFinite : Quotient → Type 0
IsFinite q = 0 < q.den

abbrev pub IsInfinite : Quotient → Type 0
IsInfinite q = q.den ≡ 0

-- the next quotient of an entry
abbrev pub next_of : Divisor → List ℕ → List ℕ → ℕ → Quotient
next_of method v s i = quotient method (slice_index v i) (slice_index s i)

-- the votes of i grew by a larger factor than those of j; then i does not lose a seat while j gets one more, whatever the seats of the
-- two houses
abbrev pub PopulationMonotone : Type 0
PopulationMonotone =
    (method : Divisor) (v w m : List ℕ) (seats house : ℕ) (s t : List ℕ) →
    IsDivisorAllocation method v m seats s → IsDivisorAllocation method w m house t →
    (i j : ℕ) → slice_index v i * slice_index w j < slice_index w i * slice_index v j →
    IsFinite (next_of method w t i) → slice_index t i < slice_index s i → slice_index t j ≤ slice_index s j

-- they grew by the same factor; then i loses a seat while j gets one more by a tie alone: one seat, in both houses
abbrev pub SameFactor : Type 0
SameFactor =
    (method : Divisor) (v w m : List ℕ) (seats house : ℕ) (s t : List ℕ) →
    IsDivisorAllocation method v m seats s → IsDivisorAllocation method w m house t →
    (i j : ℕ) → slice_index v i * slice_index w j ≡ slice_index w i * slice_index v j →
    slice_index t i < slice_index s i → slice_index s j < slice_index t j →
    (slice_index s i ≡ slice_index t i + 1) × (slice_index t j ≡ slice_index s j + 1)
    × IsTied (IsDivisorAllocation method v m seats) i × IsTied (IsDivisorAllocation method v m seats) j
    × IsTied (IsDivisorAllocation method w m house) i × IsTied (IsDivisorAllocation method w m house) j

-- so it is where i gained votes and j did not
abbrev pub AbsolutelyMonotone : Type 0
AbsolutelyMonotone =
    (method : Divisor) (v w m : List ℕ) (seats house : ℕ) (s t : List ℕ) →
    IsDivisorAllocation method v m seats s → IsDivisorAllocation method w m house t →
    (i j : ℕ) → slice_index v i < slice_index w i → slice_index w j ≤ slice_index v j →
    IsFinite (next_of method w t i) → slice_index t i < slice_index s i → slice_index t j ≤ slice_index s j

-- i gained votes and no other entry did: it has no fewer seats
abbrev pub VotesMonotone : Type 0
VotesMonotone =
    (method : Divisor) (v w m : List ℕ) (seats : ℕ) (s t : List ℕ) →
    IsDivisorAllocation method v m seats s → IsDivisorAllocation method w m seats t →
    (i : ℕ) → slice_index v i < slice_index w i → ((j : ℕ) → j ≢ i → slice_index w j ≤ slice_index v j) →
    IsFinite (next_of method w t i) → slice_index s i ≤ slice_index t i

-- i has more votes than j and no smaller minimum: it has no fewer seats
abbrev pub VotesOrdered : Type 0
VotesOrdered =
    (method : Divisor) (v m : List ℕ) (seats : ℕ) (s : List ℕ) → IsDivisorAllocation method v m seats s →
    (i j : ℕ) → slice_index v j < slice_index v i → slice_index m j ≤ slice_index m i →
    IsFinite (next_of method v s i) → slice_index s j ≤ slice_index s i

-- the same entries have votes
pub record SameField (v w : List ℕ) : Type 0 where
  pub same_length : length v ≡ length w
  pub same_entries : (j : ℕ) → InField v j ↔ InField w j

-- s gives each entry its minimum; or a first seat, where it has votes and a minimum of 0
pub record AreFirstSeats (v m : List ℕ) (seats : ℕ) (s : List ℕ) : Type 0 where
  pub same_length : length s ≡ length v
  pub total : sum s ≡ seats
  pub each : (j : ℕ) →
      (slice_index s j ≡ slice_index m j) ⊎ (InField v j × (slice_index m j ≡ 0) × (slice_index s j ≡ 1))

-- where a next quotient is infinite, under any votes of the same entries the allocations are those by first seats, and all of them:
-- a lot decides, and not the votes
abbrev pub FirstSeatsByLot : Type 0
FirstSeatsByLot =
    (method : Divisor) (w m : List ℕ) (seats : ℕ) (t : List ℕ) → IsDivisorAllocation method w m seats t →
    (i : ℕ) → InField w i → IsInfinite (next_of method w t i) →
    (slice_index t i ≡ 0)
    × ((v : List ℕ) → SameField v w → (s : List ℕ) → IsDivisorAllocation method v m seats s ↔ AreFirstSeats v m seats s)
