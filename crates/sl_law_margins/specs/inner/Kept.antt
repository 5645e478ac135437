-- The weight with which an entry's last quotient is above the next one of every other entry.
use Rattle.std.specs.Prelude.{◌≡◌, ◌≢◌, ℕ, ◌-◌, ◌<◌, List, Option, Some, None, slice_index}
use Rattle.sl_base_quotients.specs.declared.method.Divisor.{Divisor}
use Rattle.sl_base_quotients.specs.Bounds.{HasWeight, next_quotient}
use Rattle.sl_law_margins.specs.inner.Needed.{IsLeast, IsAbove}

-- with the weight w the last quotient of i is above the next one of each other entry among the first n that has votes
pub record Holds (method : Divisor) (v s : List ℕ) (i n w : ℕ) : Type 0 where
  pub positive : 0 < w
  pub above : (j : ℕ) → j < n → j ≢ i → HasWeight v j → IsAbove method (slice_index s i - 1) (next_quotient method v s j) w

-- the least such weight; nothing where a next quotient is infinite
abbrev pub IsKept : Divisor → (v s : List ℕ) → ℕ → ℕ → Option ℕ → Type 0
IsKept method v s i n (Some w) = IsLeast (Holds method v s i n) w
IsKept method v s i n None = (j : ℕ) × (j < n) × (j ≢ i) × HasWeight v j × ((next_quotient method v s j).den ≡ 0)
