-- Which methods stay within quota: the share of an entry, rounded down or up (Balinski and Young, Fair Representation, appendix A).
-- Each law is the contract of a function of `laws`.
use Rattle.std.specs.Prelude.{ℕ, ◌+◌, ◌-◌, ◌*◌, ◌/◌, ◌≤◌, Bool, List, sum, slice_index}
use Rattle.sl_base_quotients.specs.declared.method.Divisor.TheVariants.{Adams, Jefferson}
use Rattle.sl_law_meaning.specs.methods.Field.{no_minima}
use Rattle.sl_law_meaning.specs.methods.Allocations.{IsDivisorAllocation}
use Rattle.sl_law_meaning.specs.methods.Hamilton.{whole, IsHamiltonAllocation}

-- the share S * v / V rounded up (`whole` rounds it down)
abbrev pub raised_whole : List ℕ → ℕ → ℕ → ℕ
raised_whole v seats i = (seats * slice_index v i + (sum v - 1)) / sum v

abbrev pub JeffersonLowerQuota : Type 0
JeffersonLowerQuota =
    (v : List ℕ) (seats : ℕ) (s : List ℕ) → IsDivisorAllocation Jefferson v (no_minima v) seats s →
    (i : ℕ) → whole v seats i ≤ slice_index s i

abbrev pub AdamsUpperQuota : Type 0
AdamsUpperQuota =
    (v : List ℕ) (seats : ℕ) (s : List ℕ) → IsDivisorAllocation Adams v (no_minima v) seats s →
    (i : ℕ) → slice_index s i ≤ raised_whole v seats i

abbrev pub HamiltonInQuota : Type 0
HamiltonInQuota =
    (prefer : Bool) (v : List ℕ) (seats : ℕ) (s : List ℕ) → IsHamiltonAllocation prefer v seats s →
    (i : ℕ) → (whole v seats i ≤ slice_index s i) × (slice_index s i ≤ raised_whole v seats i)
