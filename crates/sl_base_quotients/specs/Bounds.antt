-- The bounds of an allocation without minima, and rounding by a divisor between them (docs/methods.md, section 9). The entries are
-- given by their weights v and their seats s, in entry order; those of positive weight count. A list reads 0 past its end.
use Rattle.std.specs.Prelude.{◌≡◌, ◌≢◌, ℕ, ◌+◌, ◌-◌, ◌*◌, ◌/◌, ◌<◌, IsTrue, List, Option, Some, None, slice_index, if◌then◌else◌}
use Rattle.std.specs.Ordering.{is_le}
use Rattle.sl_base_quotients.specs.declared.method.Divisor.{Divisor}
use Rattle.sl_base_quotients.specs.declared.method.Divisor.TheVariants.{Adams, Webster, Jefferson}
use Rattle.sl_base_quotients.specs.Quotient.{Quotient, AtMost, Below, compare, quotient, is_rounding}

-- a method that rounds a weight by a divisor
abbrev pub IsRounding : Divisor → Type 0
IsRounding method = IsTrue (is_rounding method)

-- entry i has a positive weight
abbrev pub HasWeight : List ℕ → ℕ → Type 0
HasWeight v i = 0 < slice_index v i

-- the quotient of the last seat that entry i was awarded, and that of the next one
abbrev pub last_quotient : Divisor → List ℕ → List ℕ → ℕ → Quotient
last_quotient method v s i = quotient method (slice_index v i) (slice_index s i - 1)

abbrev pub next_quotient : Divisor → List ℕ → List ℕ → ℕ → Quotient
next_quotient method v s i = quotient method (slice_index v i) (slice_index s i)

-- an entry whose last seat has the least quotient of all awarded seats: that quotient is the bound `last`
pub record IsLast (method : Divisor) (v s : List ℕ) (i : ℕ) : Type 0 where
  pub weight : HasWeight v i
  pub awarded : 0 < slice_index s i
  pub least : (j : ℕ) → HasWeight v j → 0 < slice_index s j → AtMost (last_quotient method v s i) (last_quotient method v s j)

-- an entry whose next quotient is the greatest: that quotient is the bound `next`
pub record IsNext (method : Divisor) (v s : List ℕ) (i : ℕ) : Type 0 where
  pub weight : HasWeight v i
  pub greatest : (j : ℕ) → HasWeight v j → AtMost (next_quotient method v s j) (next_quotient method v s i)

-- i is the first number, in order, of which P holds
pub record IsFirst (P : ℕ → Type 0) (i : ℕ) : Type 0 where
  pub holds : P i
  pub before : (j : ℕ) → j < i → ¬ P j

-- the bound `last` as a ratio: of the entries that have its quotient, the first one's
abbrev pub IsLastBound : Divisor → List ℕ → List ℕ → Quotient → Type 0
IsLastBound method v s ratio = (i : ℕ) × IsFirst (IsLast method v s) i × (ratio ≡ last_quotient method v s i)

-- the bound `next` as a ratio, likewise
abbrev pub IsNextBound : Divisor → List ℕ → List ℕ → Quotient → Type 0
IsNextBound method v s ratio = (i : ℕ) × IsFirst (IsNext method v s) i × (ratio ≡ next_quotient method v s i)

-- the answer is the two bounds where `next` is at most `last`, and nothing where it is above
abbrev pub AreBounds : Divisor → List ℕ → List ℕ → Option (Quotient × Quotient) → Type 0
AreBounds method v s answer =
    (last next : Quotient) × IsLastBound method v s last × IsNextBound method v s next
    × (answer ≡ (if is_le (compare next last) then Some (last, next) else None))

-- the divisor stands strictly between the two bounds
pub record Between (method : Divisor) (v s : List ℕ) (divisor : Quotient) : Type 0 where
  pub last : Quotient
  pub next : Quotient
  pub is_last : IsLastBound method v s last
  pub is_next : IsNextBound method v s next
  pub above_next : Below next divisor
  pub below_last : Below divisor last

-- v * r / p rounded up, to nearest or down
abbrev pub round_up : ℕ → Quotient → ℕ
round_up v d = (v * d.den + (d.num - 1)) / d.num

abbrev pub round_nearest : ℕ → Quotient → ℕ
round_nearest v d = (2 * (v * d.den) + d.num) / (2 * d.num)

abbrev pub round_down : ℕ → Quotient → ℕ
round_down v d = v * d.den / d.num

-- a divisor strictly between the bounds rounds each weight to its seats, and under webster it meets no half
pub record Rounds (v s : List ℕ) (d : Quotient) : Type 0 where
  pub adams : Between Adams v s d → (i : ℕ) → HasWeight v i → round_up (slice_index v i) d ≡ slice_index s i
  pub webster : Between Webster v s d → (i : ℕ) → HasWeight v i → round_nearest (slice_index v i) d ≡ slice_index s i
  pub no_half : Between Webster v s d → (i : ℕ) → HasWeight v i →
      (n : ℕ) → 2 * (slice_index v i * d.den) ≢ (2 * n + 1) * d.num
  pub jefferson : Between Jefferson v s d → (i : ℕ) → HasWeight v i → round_down (slice_index v i) d ≡ slice_index s i
