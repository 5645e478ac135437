-- Huntington's tests (Balinski and Young, Fair Representation, appendix A): each divisor method is the one that no moved seat makes better, by
-- its measure of the inequality of two entries. The law is the contract of a function of `laws`.
use Rattle.std.specs.Prelude.{◌≡◌, ◌≢◌, ◌↔◌, ℕ, ◌+◌, ◌-◌, ◌*◌, ◌<◌, List, length, sum, nat_le, slice_index, if◌then◌else◌}
use Rattle.sl_base_quotients.specs.declared.method.Divisor.{Divisor}
use Rattle.sl_base_quotients.specs.declared.method.Divisor.TheVariants.{Adams, Dean, Hill, Webster, Jefferson}
use Rattle.sl_base_quotients.specs.Quotient.{Quotient, AtMost}
use Rattle.sl_law_meaning.specs.methods.Field.{InField, no_minima}
use Rattle.sl_law_meaning.specs.methods.Allocations.{IsDivisorAllocation}

-- by how much x seats for v votes are better than y seats for w votes
abbrev pub lead : Divisor → (x v y w : ℕ) → Quotient
-- x - y v / w
lead Adams x v y w = record { num = x * w - y * v; den = w }
-- w / y - v / x
lead Dean x v y w = record { num = x * w - y * v; den = x * y }
-- (x / v) / (y / w)
lead Hill x v y w = record { num = x * w; den = y * v }
-- x / v - y / w
lead Webster x v y w = record { num = x * w - y * v; den = v * w }
-- x w / v - y
lead Jefferson x v y w = record { num = x * w - y * v; den = v }

-- of the two, by how much the one is better that has no fewer seats for its votes
abbrev pub inequality : Divisor → (x v y w : ℕ) → Quotient
inequality method x v y w = if nat_le (y * v) (x * w) then lead method x v y w else lead method y w x v

-- no seat moved from one entry with votes to another makes the inequality of the two less
abbrev pub IsLeastUnequal : Divisor → List ℕ → List ℕ → Type 0
IsLeastUnequal method v s =
    (i j : ℕ) → i ≢ j → InField v i → InField v j → 0 < slice_index s i →
    AtMost (inequality method (slice_index s i) (slice_index v i) (slice_index s j) (slice_index v j))
    (inequality method (slice_index s i - 1) (slice_index v i) (slice_index s j + 1) (slice_index v j))

abbrev pub HuntingtonsTests : Type 0
HuntingtonsTests =
    (method : Divisor) (v : List ℕ) (seats : ℕ) (s : List ℕ) →
    length s ≡ length v → sum s ≡ seats → ((i : ℕ) → slice_index v i ≡ 0 → slice_index s i ≡ 0) →
    IsDivisorAllocation method v (no_minima v) seats s ↔ IsLeastUnequal method v s
