-- The weight with which an entry's next quotient is above the last one of another entry.
use Rattle.std.specs.Prelude.{◌≡◌, ◌≢◌, ℕ, ◌*◌, ◌<◌, ◌≤◌, List, Option, Some, None, slice_index, min}
use Rattle.sl_base_quotients.specs.declared.method.Divisor.{Divisor}
use Rattle.sl_base_quotients.specs.declared.method.Divisor.TheVariants.{Adams, Dean, Hill, Webster, Jefferson}
use Rattle.sl_base_quotients.specs.Quotient.{Quotient, Below, quotient}
use Rattle.sl_base_quotients.specs.Bounds.{last_quotient}

-- a weight as quotients have it: squared under Hill
abbrev pub power_of : Divisor → ℕ → ℕ
power_of Adams w = w
power_of Dean w = w
power_of Hill w = w * w
power_of Webster w = w
power_of Jefferson w = w

-- w is the least number of which P holds
pub record IsLeast (P : ℕ → Type 0) (w : ℕ) : Type 0 where
  pub holds : P w
  pub least : (u : ℕ) → P u → w ≤ u

-- the weight w with so many seats has a quotient above the claim
abbrev pub IsAbove : Divisor → ℕ → Quotient → ℕ → Type 0
IsAbove method held claim w = Below claim (quotient method w held)

-- the lesser of two numbers, where there are two
abbrev pub lesser : Option ℕ → Option ℕ → Option ℕ
lesser (Some x) (Some y) = Some (min x y)
lesser (Some x) None = Some x
lesser None y = y

-- another entry than i, which has a seat beyond its minimum
pub record IsRival (m s : List ℕ) (i j : ℕ) : Type 0 where
  pub other : j ≢ i
  pub beyond : slice_index m j < slice_index s j

-- with the weight w the next quotient of i is above the last one of some rival among the first n entries
abbrev pub Overtakes : Divisor → (v m s : List ℕ) → ℕ → ℕ → ℕ → Type 0
Overtakes method v m s i n w =
    (j : ℕ) × (j < n) × IsRival m s i j × IsAbove method (slice_index s i) (last_quotient method v s j) w

-- the least such weight; nothing where each rival's last quotient is infinite
abbrev pub IsNeeded : Divisor → (v m s : List ℕ) → ℕ → ℕ → Option ℕ → Type 0
IsNeeded method v m s i n (Some w) = IsLeast (Overtakes method v m s i n) w
IsNeeded method v m s i n None = (j : ℕ) → j < n → IsRival m s i j → (last_quotient method v s j).den ≡ 0
