-- The votes that must go over from one entry to another for one more seat (docs/margins.md, section 3). A scope is given by the votes v and the
-- seats s of its entries, in entry order. A list reads 0 past its end.
use Rattle.std.specs.Prelude.{ℕ, ◌+◌, ◌-◌, ◌<◌, ◌≤◌, List, Option, Some, None, sum, slice_index, slice_set}
use Rattle.sl_base_quotients.specs.declared.method.Divisor.{Divisor}
use Rattle.sl_law_meaning.specs.methods.Field.{no_minima}
use Rattle.sl_law_meaning.specs.methods.Allocations.{IsDivisorAllocation}

-- the votes with x that went from entry j to entry i, all else equal
abbrev pub with_swing : List ℕ → ℕ → ℕ → ℕ → List ℕ
with_swing v j i x = slice_set (slice_set v j (slice_index v j - x)) i (slice_index v i + x)

abbrev pub IsAllocationBySwing : Divisor → List ℕ → List ℕ → ℕ → ℕ → ℕ → List ℕ → Type 0
IsAllocationBySwing method v s j i x t = IsDivisorAllocation method (with_swing v j i x) (no_minima v) (sum s) t

-- with them every allocation gives i more seats than it has in s
abbrev pub WinsASeat : Divisor → List ℕ → List ℕ → ℕ → ℕ → ℕ → Type 0
WinsASeat method v s j i x = (t : List ℕ) → IsAllocationBySwing method v s j i x t → slice_index s i < slice_index t i

-- some allocation gives it no more
abbrev pub MayWinNone : Divisor → List ℕ → List ℕ → ℕ → ℕ → ℕ → Type 0
MayWinNone method v s j i x = (t : List ℕ) × IsAllocationBySwing method v s j i x t × (slice_index t i ≤ slice_index s i)

-- the least number of the votes of j that wins i a seat, or nothing where all of them do not
abbrev pub IsSwing : Divisor → List ℕ → List ℕ → ℕ → ℕ → Option ℕ → Type 0
IsSwing method v s j i (Some x) = (x ≤ slice_index v j) × WinsASeat method v s j i x × ((y : ℕ) → y < x → MayWinNone method v s j i y)
IsSwing method v s j i None = (y : ℕ) → y ≤ slice_index v j → MayWinNone method v s j i y
