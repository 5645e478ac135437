-- The laws of votes missing and of divisors (docs/margins.md, sections 1 and 4). Each is the contract of a function of `laws`.
use Rattle.std.specs.Prelude.{◌≡◌, ℕ, ◌<◌, ◌≤◌, List, length, sum, slice_index}
use Rattle.sl_base_quotients.specs.declared.limits.TheConstants.{MAX_SEATS}
use Rattle.sl_base_quotients.specs.declared.method.Divisor.{Divisor}
use Rattle.sl_base_quotients.specs.Quotient.{Below}
use Rattle.sl_law_meaning.specs.methods.Allocations.{IsDivisorAllocation}
use Rattle.sl_base_quotients.specs.Bounds.{IsRounding, IsLast, IsNext, last_quotient, next_quotient}
use Rattle.sl_law_margins.specs.Decimals.{value_of}
use Rattle.sl_law_margins.specs.Divisors.{Separates, unit_places}
use Rattle.sl_law_margins.specs.MissingVotes.{AreEnoughWith}

-- by Adams's, Webster's or Jefferson's method, where the greatest next claim is below the least last one, some decimal number of twelve
-- places stands between: there is no divisor only at a tie
abbrev pub DivisorsBetween : Type 0
DivisorsBetween =
    (method : Divisor) (v s : List ℕ) → IsRounding method → ((k : ℕ) → slice_index s k ≤ MAX_SEATS) →
    (i j : ℕ) → IsLast method v s i → IsNext method v s j → Below (next_quotient method v s j) (last_quotient method v s i) →
    (n : ℕ) × Separates method v s (value_of (record { digits = n; places = unit_places method }))

-- where so many further votes are enough for one more seat in addition to minima, more are too
abbrev pub EnoughStaysEnough : Type 0
EnoughStaysEnough =
    (method : Divisor) (v m s : List ℕ) → length m ≡ length v → IsDivisorAllocation method v m (sum s) s → (i : ℕ) → i < length v →
    (x y : ℕ) → AreEnoughWith method v m s i x → x ≤ y → AreEnoughWith method v m s i y
