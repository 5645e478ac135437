-- The votes that an entry lacks for one more seat (docs/margins.md, section 1). A scope is given by the votes v and the seats s of its
-- entries, in entry order. A list reads 0 past its end.
use Rattle.std.specs.Prelude.{◌≢◌, ℕ, ◌+◌, ◌<◌, ◌≤◌, List, [], Option, Some, None, max, sum, slice_index, slice_set}
use Rattle.sl_base_quotients.specs.declared.method.Divisor.{Divisor}
use Rattle.sl_base_quotients.specs.declared.method.Divisor.TheVariants.{Adams, Dean, Hill, Webster, Jefferson}
use Rattle.sl_law_meaning.specs.methods.Field.{no_minima}
use Rattle.sl_law_meaning.specs.methods.Allocations.{IsDivisorAllocation}

-- s is an allocation, without minima, of as many seats as it has
abbrev pub IsAllocation : Divisor → List ℕ → List ℕ → Type 0
IsAllocation method v s = IsDivisorAllocation method v (no_minima v) (sum s) s

-- the votes with x further ones for entry i, all else equal
abbrev pub with_further : List ℕ → ℕ → ℕ → List ℕ
with_further v i x = slice_set v i (slice_index v i + x)

-- ---- with minima m

-- x further votes are enough: every allocation gives the entry more seats than it has in s
abbrev pub AreEnoughWith : Divisor → (v m s : List ℕ) → ℕ → ℕ → Type 0
AreEnoughWith method v m s i x = (t : List ℕ) → IsDivisorAllocation method (with_further v i x) m (sum s) t → slice_index s i < slice_index t i

-- x further votes are too few: some allocation gives it no more
abbrev pub AreTooFewWith : Divisor → (v m s : List ℕ) → ℕ → ℕ → Type 0
AreTooFewWith method v m s i x = (t : List ℕ) × IsDivisorAllocation method (with_further v i x) m (sum s) t × (slice_index t i ≤ slice_index s i)

-- the least number of further votes that is enough, or nothing where every number is too few
abbrev pub AreMissingWith : Divisor → (v m s : List ℕ) → ℕ → Option ℕ → Type 0
AreMissingWith method v m s i (Some x) = AreEnoughWith method v m s i x × ((y : ℕ) → y < x → AreTooFewWith method v m s i y)
AreMissingWith method v m s i None = (x : ℕ) → AreTooFewWith method v m s i x

-- the seats of an entry that no votes of another can take: under Adams, Dean and Hill its first one, whose quotient is infinite
abbrev pub safe_seats : Divisor → ℕ
safe_seats Adams = 1
safe_seats Dean = 1
safe_seats Hill = 1
safe_seats Webster = 0
safe_seats Jefferson = 0

-- no entry other than i has a seat that it may lose: beyond its minimum, and beyond these
abbrev pub AreOthersSafeWith : Divisor → (m s : List ℕ) → ℕ → Type 0
AreOthersSafeWith method m s i = (j : ℕ) → j ≢ i → slice_index s j ≤ max (slice_index m j) (safe_seats method)

-- ---- without minima

abbrev pub AreEnough : Divisor → List ℕ → List ℕ → ℕ → ℕ → Type 0
AreEnough method v s = AreEnoughWith method v (no_minima v) s

abbrev pub AreMissing : Divisor → List ℕ → List ℕ → ℕ → Option ℕ → Type 0
AreMissing method v s = AreMissingWith method v (no_minima v) s

abbrev pub AreOthersSafe : Divisor → List ℕ → ℕ → Type 0
AreOthersSafe method s = AreOthersSafeWith method [] s
