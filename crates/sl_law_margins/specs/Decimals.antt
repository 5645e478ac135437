-- Decimal numbers, their texts, and quotients in decimals (docs/margins.md, section 5).
use Rattle.std.specs.Prelude.{◌≡◌, ℕ, ◌-◌, ◌*◌, ◌/◌, ◌%◌, ◌^◌, ◌<◌, ◌≤◌, List, ◌++◌, length, codes, nat_eq, if◌then◌else◌}
use Rattle.std.specs.Fmt.{decimal}
use Rattle.std.specs.List.{repeat}
use Rattle.sl_base_quotients.specs.Quotient.{Quotient, AtMost, SameQuotient}

-- the most places after the point
abbrev pub max_places : ℕ
max_places = 12

-- digits / 10 ^ places, with so many places after the point
pub record Number : Type 0 where
  pub digits : ℕ
  pub places : ℕ

-- as a quotient
abbrev pub value_of : Number → Quotient
value_of d = record { num = d.digits; den = 10 ^ d.places }

-- the quotient q in decimals with so many places, cut: of the numbers of so many places the greatest that is not above it
pub record IsCut (q : Quotient) (places : ℕ) (d : Number) : Type 0 where
  pub places_kept : d.places ≡ places
  pub not_above : AtMost (value_of d) q
  pub greatest : (n : ℕ) → AtMost (value_of (record { digits = n; places = places })) q → n ≤ d.digits

-- a number in so many digits, with zeros in front
abbrev pub padded_text : ℕ → ℕ → List ℕ
padded_text places n = repeat (places - length (decimal n)) (codes "0") ++ decimal n

-- the whole part, and with any places a point and as many digits
abbrev pub number_text : Number → List ℕ
number_text d =
    if nat_eq d.places 0
    then decimal d.digits
    else decimal (d.digits / 10 ^ d.places) ++ (codes "." ++ padded_text d.places (d.digits % 10 ^ d.places))

-- m * 10 ^ up / 10 ^ down, for a whole number m
abbrev pub scaled : ℕ → ℕ → ℕ → Quotient
scaled m up down = record { num = m * 10 ^ up; den = 10 ^ down }

-- a decimal number of at most k significant digits
abbrev pub HasDigits : ℕ → Quotient → Type 0
HasDigits k x = (m : ℕ) × (up : ℕ) × (down : ℕ) × (m < 10 ^ k) × SameQuotient x (scaled m up down)
