-- Inputs that are read to their ends.
use Rattle.std.specs.Prelude.{◌≡◌, ℕ, ◌<◌, ◌≤◌, List, length}
use Rattle.sl_count_inputs.specs.declared.input.Bytes.{Bytes}
use Rattle.sl_count_inputs.specs.declared.input.Bytes.TheVariants.{Whole, TooLong}

-- what was read of these bytes: all, or that they are over the limit
abbrev pub Holds : ℕ → Bytes → List ℕ → Type 0
Holds limit (Whole v) bytes = (v.items ≡ bytes) × (length bytes ≤ limit)
Holds limit TooLong bytes = limit < length bytes

-- what is whole is not over the limit
abbrev pub IsWithin : ℕ → Bytes → Type 0
IsWithin limit (Whole v) = length v.items ≤ limit
IsWithin limit TooLong = Unit {0}
