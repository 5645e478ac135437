-- What a search among quotients keeps: the one found so far, or the one that it meets.
use Rattle.std.specs.Prelude.{Option, Some, None, if◌then◌else◌}
use Rattle.std.specs.Ordering.{is_le, is_ge}
use Rattle.sl_base_quotients.specs.Quotient.{Quotient, compare}

-- the lesser of the two, and the one found where they are equal
abbrev pub lesser : Option Quotient → Quotient → Quotient
lesser None y = y
lesser (Some x) y = if is_le (compare x y) then x else y

-- the greater of the two, and the one found where they are equal
abbrev pub greater : Option Quotient → Quotient → Quotient
greater None y = y
greater (Some x) y = if is_ge (compare x y) then x else y
