-- How near the allocations of Webster's method are to the shares (Balinski and Young, Fair Representation, appendix A).
-- Each law is the contract of a function of `laws`.
use Rattle.std.specs.Prelude.{ℕ, ◌+◌, ◌-◌, ◌*◌, ◌<◌, ◌≤◌, List, sum, count_by, nat_lt, slice_index}
use Rattle.sl_base_quotients.specs.declared.method.Divisor.TheVariants.{Webster}
use Rattle.sl_law_meaning.specs.methods.Field.{InField, no_minima}
use Rattle.sl_law_meaning.specs.methods.Allocations.{IsDivisorAllocation}

-- i has more than its share and a half, and j less than its share without a half: a seat moved from i to j brings both nearer
abbrev pub AreApart : List ℕ → ℕ → List ℕ → ℕ → ℕ → Type 0
AreApart v seats s i j =
    (0 < slice_index s i) × (2 * (seats * slice_index v i) < (2 * slice_index s i - 1) * sum v)
    × ((2 * slice_index s j + 1) * sum v < 2 * (seats * slice_index v j))

-- under Webster no two entries are
abbrev pub WebsterNearQuota : Type 0
WebsterNearQuota =
    (v : List ℕ) (seats : ℕ) (s : List ℕ) → IsDivisorAllocation Webster v (no_minima v) seats s →
    (i j : ℕ) → InField v i → InField v j → ¬ AreApart v seats s i j

-- the entries with votes
abbrev pub in_field : List ℕ → ℕ
in_field v = count_by (λ x. nat_lt 0 x) v

-- of n entries with votes, the seats of one are no farther from its share than half a seat and n - 2 halves of its part of the votes:
-- |s_i - S v_i / V| ≤ 1/2 + (n - 2)/2 * v_i / V
abbrev pub WebsterDeviation : Type 0
WebsterDeviation =
    (v : List ℕ) (seats : ℕ) (s : List ℕ) → IsDivisorAllocation Webster v (no_minima v) seats s → (i : ℕ) → InField v i →
    (2 * (sum v * slice_index s i) + 2 * slice_index v i ≤ 2 * (seats * slice_index v i) + sum v + in_field v * slice_index v i)
    × (2 * (seats * slice_index v i) + 2 * slice_index v i ≤ 2 * (sum v * slice_index s i) + sum v + in_field v * slice_index v i)
