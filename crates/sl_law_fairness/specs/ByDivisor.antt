-- A divisor method rounds by one divisor (Balinski and Young, Fair Representation, appendix A): Webster's to the nearest number, Jefferson's
-- down, Adams's up, and Dean's and Hill's at the harmonic and the geometric means of the numbers. Each law is the contract of a function of
-- `laws`.
use Rattle.std.specs.Prelude.{◌≡◌, ◌↔◌, ℕ, ◌+◌, ◌-◌, ◌*◌, ◌<◌, ◌≤◌, List, length, max, sum, slice_index}
use Rattle.sl_base_quotients.specs.declared.method.Divisor.{Divisor}
use Rattle.sl_base_quotients.specs.declared.method.Divisor.TheVariants.{Adams, Dean, Hill, Webster, Jefferson}
use Rattle.sl_base_quotients.specs.Quotient.{Quotient, AtMost, Below, quotient}
use Rattle.sl_law_meaning.specs.methods.Field.{InField}
use Rattle.sl_law_meaning.specs.methods.Allocations.{IsDivisorAllocation}

-- r is v / d, rounded to the nearest number: r - 1/2 ≤ v / d ≤ r + 1/2, so a half is rounded up or down
pub record IsNearest (d : Quotient) (v r : ℕ) : Type 0 where
  pub not_above : 2 * (r * d.num) ≤ 2 * (v * d.den) + d.num
  pub not_below : 2 * (v * d.den) ≤ (2 * r + 1) * d.num

-- r is v / d, rounded down: r ≤ v / d ≤ r + 1, so a whole quotient is kept or has one less
pub record IsRoundedDown (d : Quotient) (v r : ℕ) : Type 0 where
  pub not_above : r * d.num ≤ v * d.den
  pub not_below : v * d.den ≤ (r + 1) * d.num

-- r is v / d, rounded up: r - 1 ≤ v / d ≤ r, so a whole quotient is kept or has one more
pub record IsRoundedUp (d : Quotient) (v r : ℕ) : Type 0 where
  pub not_above : r * d.num ≤ v * d.den + d.num
  pub not_below : v * d.den ≤ r * d.num

-- r is v / d, rounded at the harmonic means of the numbers: 2 (r - 1) r / (2 r - 1) ≤ v / d ≤ 2 r (r + 1) / (2 r + 1)
pub record IsHarmonic (d : Quotient) (v r : ℕ) : Type 0 where
  pub not_above : 2 * ((r - 1) * r) * d.num ≤ (2 * r - 1) * (v * d.den)
  pub not_below : (2 * r + 1) * (v * d.den) ≤ 2 * (r * (r + 1)) * d.num

-- r is v / √d, rounded at the geometric means of the numbers: (r - 1) r ≤ v² / d ≤ r (r + 1), where d is the square of the divisor
pub record IsGeometric (d : Quotient) (v r : ℕ) : Type 0 where
  pub not_above : (r - 1) * r * d.num ≤ v * v * d.den
  pub not_below : v * v * d.den ≤ r * (r + 1) * d.num

-- by one divisor the votes are rounded to numbers that distribute the seats, where the minimum stands in if it is more
pub record IsByDivisor (Rounded : Quotient → ℕ → ℕ → Type 0) (v m : List ℕ) (seats : ℕ) (s : List ℕ) : Type 0 where
  pub same_length : length s ≡ length v
  pub total : sum s ≡ seats
  pub outside : (i : ℕ) → slice_index v i ≡ 0 → slice_index s i ≡ slice_index m i
  pub divisor : Quotient
  pub positive : (0 < divisor.num) × (0 < divisor.den)
  pub rounded : (i : ℕ) → InField v i →
      (r : ℕ) × Rounded divisor (slice_index v i) r × (slice_index s i ≡ max (slice_index m i) r)

abbrev pub WebsterByDivisor : Type 0
WebsterByDivisor =
    (v m : List ℕ) (seats : ℕ) (s : List ℕ) → IsDivisorAllocation Webster v m seats s ↔ IsByDivisor IsNearest v m seats s

abbrev pub JeffersonByDivisor : Type 0
JeffersonByDivisor =
    (v m : List ℕ) (seats : ℕ) (s : List ℕ) → IsDivisorAllocation Jefferson v m seats s ↔ IsByDivisor IsRoundedDown v m seats s

-- each entry with votes has a seat: without one its claim under Adams, Dean and Hill is infinite, and so is the divisor
abbrev pub AllSeated : List ℕ → List ℕ → Type 0
AllSeated v s = (i : ℕ) → InField v i → 0 < slice_index s i

abbrev pub AdamsByDivisor : Type 0
AdamsByDivisor =
    (v m : List ℕ) (seats : ℕ) (s : List ℕ) →
    (IsDivisorAllocation Adams v m seats s × AllSeated v s) ↔ IsByDivisor IsRoundedUp v m seats s

abbrev pub DeanByDivisor : Type 0
DeanByDivisor =
    (v m : List ℕ) (seats : ℕ) (s : List ℕ) →
    (IsDivisorAllocation Dean v m seats s × AllSeated v s) ↔ IsByDivisor IsHarmonic v m seats s

abbrev pub HillByDivisor : Type 0
HillByDivisor =
    (v m : List ℕ) (seats : ℕ) (s : List ℕ) →
    (IsDivisorAllocation Hill v m seats s × AllSeated v s) ↔ IsByDivisor IsGeometric v m seats s

-- votes, or seats, as quotients have them: squared under Hill
abbrev pub power : Divisor → ℕ → ℕ
power Adams n = n
power Dean n = n
power Hill n = n * n
power Webster n = n
power Jefferson n = n

-- the quotient for one more seat than a is the votes by a number between a and a + 1, the two included (by Hill squares, by a square between)
abbrev pub DivisorBetween : Type 0
DivisorBetween =
    (method : Divisor) (v a : ℕ) →
    AtMost (record { num = power method v; den = power method (a + 1) }) (quotient method v a)
    × AtMost (quotient method v a) (record { num = power method v; den = power method a })

-- where one number is above each next claim and below each last one beyond a minimum, the seats are the only allocation
abbrev pub SeparatedIsOnly : Type 0
SeparatedIsOnly =
    (method : Divisor) (v m : List ℕ) (seats : ℕ) (s : List ℕ) (d : Quotient) → 0 < d.num →
    length s ≡ length v → sum s ≡ seats → ((i : ℕ) → slice_index m i ≤ slice_index s i) → ((i : ℕ) → slice_index v i ≡ 0 → slice_index s i ≡ slice_index m i) →
    ((i : ℕ) → InField v i → Below (quotient method (slice_index v i) (slice_index s i)) d) →
    ((i : ℕ) → InField v i → slice_index m i < slice_index s i → Below d (quotient method (slice_index v i) (slice_index s i - 1))) →
    IsDivisorAllocation method v m seats s × ((t : List ℕ) → IsDivisorAllocation method v m seats t → (i : ℕ) → slice_index t i ≡ slice_index s i)
