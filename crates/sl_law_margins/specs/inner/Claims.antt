-- The claims of an allocation, as the searches find them.
use Rattle.std.specs.Prelude.{◌≡◌, ℕ, ◌<◌, List, Option, Some, None, slice_index}
use Rattle.sl_base_quotients.specs.declared.method.Divisor.{Divisor}
use Rattle.sl_base_quotients.specs.Quotient.{Quotient, AtMost}
use Rattle.sl_base_quotients.specs.Bounds.{HasWeight, IsLast, IsNext, last_quotient, next_quotient}

-- the quotient of who won the last seat, or nothing where no entry of the field has a seat
abbrev pub IsLeastLast : Divisor → List ℕ → List ℕ → Option Quotient → Type 0
IsLeastLast method v s (Some x) = (i : ℕ) × IsLast method v s i × (x ≡ last_quotient method v s i)
IsLeastLast method v s None = (i : ℕ) → HasWeight v i → ¬ (0 < slice_index s i)

-- the quotient of who has the next claim, or nothing where the field is empty
abbrev pub IsGreatestNext : Divisor → List ℕ → List ℕ → Option Quotient → Type 0
IsGreatestNext method v s (Some x) = (i : ℕ) × IsNext method v s i × (x ≡ next_quotient method v s i)
IsGreatestNext method v s None = (i : ℕ) → ¬ HasWeight v i

-- who has no votes has no seat
abbrev pub IsInField : List ℕ → List ℕ → Type 0
IsInField v s = (i : ℕ) → slice_index v i ≡ 0 → slice_index s i ≡ 0

-- no next claim is above the claim of a seat won
abbrev pub IsFair : Divisor → List ℕ → List ℕ → Type 0
IsFair method v s = (i j : ℕ) → HasWeight v i → HasWeight v j → 0 < slice_index s i → AtMost (next_quotient method v s j) (last_quotient method v s i)
