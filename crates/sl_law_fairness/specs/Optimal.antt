-- What the allocations of Jefferson's, Adams's and Webster's methods are best at. Each law is the contract of a function of `laws`.
use Rattle.std.specs.Prelude.{◌≡◌, ◌↔◌, ℕ, zero, suc, ◌+◌, ◌*◌, ◌≤◌, List, [], ◌∷◌, length, sum, slice_index}
use Rattle.sl_base_quotients.specs.declared.method.Divisor.TheVariants.{Adams, Webster, Jefferson}
use Rattle.sl_base_quotients.specs.Quotient.{Quotient, AtMost}
use Rattle.sl_law_meaning.specs.methods.Field.{InField, no_minima}
use Rattle.sl_law_meaning.specs.methods.Allocations.{IsDivisorAllocation}
use Rattle.sl_law_fairness.specs.Hamilton.{apart}

-- the seats are distributed, and none to an entry without votes
pub record IsGivenOut (v : List ℕ) (seats : ℕ) (s : List ℕ) : Type 0 where
  pub same_length : length s ≡ length v
  pub total : sum s ≡ seats
  pub outside : (i : ℕ) → slice_index v i ≡ 0 → slice_index s i ≡ 0

-- the most seats for a vote are as few as they can be: whatever else is given, some entry has there at least as many for a vote
abbrev pub JeffersonLeastMost : Type 0
JeffersonLeastMost =
    (v : List ℕ) (seats : ℕ) (s : List ℕ) → IsDivisorAllocation Jefferson v (no_minima v) seats s → (t : List ℕ) → IsGivenOut v seats t →
    (i : ℕ) → InField v i → (j : ℕ) × InField v j × (slice_index s i * slice_index v j ≤ slice_index t j * slice_index v i)

-- the fewest seats for a vote are as many as they can be
abbrev pub AdamsMostLeast : Type 0
AdamsMostLeast =
    (v : List ℕ) (seats : ℕ) (s : List ℕ) → IsDivisorAllocation Adams v (no_minima v) seats s → (t : List ℕ) → IsGivenOut v seats t →
    (i : ℕ) → InField v i → (j : ℕ) × InField v j × (slice_index t j * slice_index v i ≤ slice_index s i * slice_index v j)

-- x and the square of V s - S v over v, if v is not 0, of V votes and S seats in all. It is V² times v (s / v - S / V)²: for each of the v votes the
-- square of what its part of the seats deviates from the part of a vote on average
abbrev pub and_deviation : (votes seats v s : ℕ) → Quotient → Quotient
and_deviation votes seats zero s x = x
and_deviation votes seats (suc v) s x =
    record { num = apart (votes * s) (seats * suc v) * apart (votes * s) (seats * suc v) * x.den + suc v * x.num; den = suc v * x.den }

abbrev pub deviations : (votes seats : ℕ) → (v s : List ℕ) → Quotient
deviations votes seats [] s = record { num = 0; den = 1 }
deviations votes seats (x ∷ v) [] = record { num = 0; den = 1 }
deviations votes seats (x ∷ v) (a ∷ s) = and_deviation votes seats x a (deviations votes seats v s)

-- the allocations by Webster's method are the lists with the least sum
abbrev pub WebsterLeastDeviations : Type 0
WebsterLeastDeviations =
    (v : List ℕ) (seats : ℕ) (s : List ℕ) →
    IsDivisorAllocation Webster v (no_minima v) seats s
    ↔ (IsGivenOut v seats s × ((t : List ℕ) → IsGivenOut v seats t → AtMost (deviations (sum v) seats v s) (deviations (sum v) seats v t)))
