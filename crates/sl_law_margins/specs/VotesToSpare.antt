-- The votes that an entry can spare (docs/margins.md, section 2). A scope is given by the votes v, the minima m and the seats s of its entries,
-- in entry order. A list reads 0 past its end.
use Rattle.std.specs.Prelude.{ℕ, ◌-◌, ◌<◌, ◌≤◌, List, Option, Some, None, sum, slice_index, slice_set}
use Rattle.sl_base_quotients.specs.declared.method.Divisor.{Divisor}
use Rattle.sl_law_meaning.specs.methods.Allocations.{IsDivisorAllocation}

-- the votes with y fewer for entry i, all else equal
abbrev pub with_fewer : List ℕ → ℕ → ℕ → List ℕ
with_fewer v i y = slice_set v i (slice_index v i - y)

-- with y fewer votes every allocation gives the entry at least the seats that it has in s
abbrev pub KeepsItsSeats : Divisor → (v m s : List ℕ) → ℕ → ℕ → Type 0
KeepsItsSeats method v m s i y = (t : List ℕ) → IsDivisorAllocation method (with_fewer v i y) m (sum s) t → slice_index s i ≤ slice_index t i

-- with y fewer votes some allocation gives it fewer
abbrev pub MayLoseASeat : Divisor → (v m s : List ℕ) → ℕ → ℕ → Type 0
MayLoseASeat method v m s i y = (t : List ℕ) × IsDivisorAllocation method (with_fewer v i y) m (sum s) t × (slice_index t i < slice_index s i)

-- the most votes that it can spare, but for its last one; or nothing where a lot may take the seat by the votes that it has
abbrev pub AreToSpare : Divisor → (v m s : List ℕ) → ℕ → Option ℕ → Type 0
AreToSpare method v m s i (Some y) =
    (y < slice_index v i)
    × ((x : ℕ) → x ≤ y → KeepsItsSeats method v m s i x)
    × ((x : ℕ) → y < x → x < slice_index v i → MayLoseASeat method v m s i x)
AreToSpare method v m s i None = (x : ℕ) → x < slice_index v i → MayLoseASeat method v m s i x
