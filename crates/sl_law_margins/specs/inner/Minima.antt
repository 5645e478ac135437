-- Allocations with minima, as they are tested.
use Rattle.std.specs.Prelude.{◌≡◌, ℕ, ◌<◌, ◌≤◌, List, length, slice_index}
use Rattle.sl_base_quotients.specs.declared.method.Divisor.{Divisor}
use Rattle.sl_base_quotients.specs.Quotient.{AtMost}
use Rattle.sl_base_quotients.specs.Bounds.{HasWeight, last_quotient, next_quotient}

-- each entry has its minimum, and just that if it has no votes
abbrev pub AreMet : List ℕ → List ℕ → List ℕ → Type 0
AreMet v m s = (i : ℕ) → i < length v → (slice_index m i ≤ slice_index s i) × (slice_index v i ≡ 0 → slice_index s i ≡ slice_index m i)

-- no next claim is above the claim of a seat won beyond a minimum
abbrev pub AreReached : Divisor → List ℕ → List ℕ → List ℕ → Type 0
AreReached method v m s = (i j : ℕ) → HasWeight v i → HasWeight v j → slice_index m i < slice_index s i → AtMost (next_quotient method v s j) (last_quotient method v s i)
