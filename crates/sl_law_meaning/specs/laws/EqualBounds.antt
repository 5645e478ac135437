-- The law of equal bounds (docs/methods.md, section 9). The field's entries are those that have a weight, as the bounds ask.
use Rattle.std.specs.Prelude.{◌≢◌, ℕ, ◌↔◌, List}
use Rattle.sl_base_quotients.specs.declared.method.Divisor.{Divisor}
use Rattle.sl_base_quotients.specs.Quotient.{SameQuotient}
use Rattle.sl_base_quotients.specs.Bounds.{IsLast, IsNext, last_quotient, next_quotient}
use Rattle.sl_law_meaning.specs.methods.Field.{no_minima}
use Rattle.sl_law_meaning.specs.methods.Allocations.{IsDivisorAllocation}

-- the bounds are equal exactly where there is another allocation
abbrev pub EqualBounds : Type 0
EqualBounds =
    (method : Divisor) (v : List ℕ) (seats : ℕ) (s : List ℕ) → IsDivisorAllocation method v (no_minima v) seats s →
    (i j : ℕ) → IsLast method v s i → IsNext method v s j →
    SameQuotient (last_quotient method v s i) (next_quotient method v s j)
    ↔ ((t : List ℕ) × IsDivisorAllocation method v (no_minima v) seats t × (t ≢ s))
