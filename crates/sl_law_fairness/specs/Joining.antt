-- Two entries that join: Jefferson's method rewards it, and Adams's does not (Balinski and Young, Fair Representation, appendix A).
-- Each law is the contract of a function of `laws`.
use Rattle.std.specs.Prelude.{◌≡◌, ◌≢◌, ◌⊎◌, ℕ, ◌+◌, ◌≤◌, List, length, slice_index}
use Rattle.sl_base_quotients.specs.declared.method.Divisor.TheVariants.{Adams, Webster, Jefferson}
use Rattle.sl_law_meaning.specs.methods.Field.{no_minima}
use Rattle.sl_law_meaning.specs.methods.Allocations.{IsDivisorAllocation}
use Rattle.sl_law_meaning.specs.methods.Ties.{IsTied}

-- from v to w the votes of j go to i
pub record Joins (v w : List ℕ) (i j : ℕ) : Type 0 where
  pub same_length : length w ≡ length v
  pub apart : i ≢ j
  pub joined : slice_index w i ≡ slice_index v i + slice_index v j
  pub emptied : slice_index w j ≡ 0
  pub others : (k : ℕ) → k ≢ i → k ≢ j → slice_index w k ≡ slice_index v k

-- under Jefferson the joined entry has no fewer seats than the two had; or one fewer, by a tie
abbrev pub JeffersonJoins : Type 0
JeffersonJoins =
    (v w : List ℕ) (i j : ℕ) → Joins v w i j → (seats : ℕ) (s t : List ℕ) →
    IsDivisorAllocation Jefferson v (no_minima v) seats s → IsDivisorAllocation Jefferson w (no_minima w) seats t →
    (slice_index s i + slice_index s j ≤ slice_index t i)
    ⊎ ((slice_index s i + slice_index s j ≡ slice_index t i + 1) × IsTied (IsDivisorAllocation Jefferson w (no_minima w) seats) i)

-- under Adams it has no more; or one more, by a tie
abbrev pub AdamsJoins : Type 0
AdamsJoins =
    (v w : List ℕ) (i j : ℕ) → Joins v w i j → (seats : ℕ) (s t : List ℕ) →
    IsDivisorAllocation Adams v (no_minima v) seats s → IsDivisorAllocation Adams w (no_minima w) seats t →
    (slice_index t i ≤ slice_index s i + slice_index s j)
    ⊎ ((slice_index t i ≡ slice_index s i + slice_index s j + 1) × IsTied (IsDivisorAllocation Adams w (no_minima w) seats) i)

-- under Webster it has what the two had, or one more or one fewer
abbrev pub WebsterJoins : Type 0
WebsterJoins =
    (v w : List ℕ) (i j : ℕ) → Joins v w i j → (seats : ℕ) (s t : List ℕ) →
    IsDivisorAllocation Webster v (no_minima v) seats s → IsDivisorAllocation Webster w (no_minima w) seats t →
    (slice_index s i + slice_index s j ≤ slice_index t i + 1) × (slice_index t i ≤ slice_index s i + slice_index s j + 1)
