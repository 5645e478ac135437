-- Divisors of the fewest digits between the claims of an allocation (docs/margins.md, section 4). A scope is given by the votes v and
-- the seats s of its entries, in entry order.
use Rattle.std.specs.Prelude.{ℕ, ◌*◌, ◌^◌, ◌<◌, List, Option, Some, None, slice_index}
use Rattle.sl_base_quotients.specs.declared.method.Divisor.{Divisor}
use Rattle.sl_base_quotients.specs.declared.method.Divisor.TheVariants.{Adams, Dean, Hill, Webster, Jefferson}
use Rattle.sl_base_quotients.specs.Quotient.{Quotient, Below}
use Rattle.sl_base_quotients.specs.Bounds.{HasWeight, last_quotient, next_quotient}
use Rattle.sl_law_margins.specs.Decimals.{Number, value_of, scaled, HasDigits}

-- a divisor as the quotients of the method have it: squared under Hill
abbrev pub as_quotient : Divisor → Quotient → Quotient
as_quotient Adams d = d
as_quotient Dean d = d
as_quotient Hill d = record { num = d.num * d.num; den = d.den * d.den }
as_quotient Webster d = d
as_quotient Jefferson d = d

-- the divisor is above each next claim and below the claim of each last seat
pub record Separates (method : Divisor) (v s : List ℕ) (d : Quotient) : Type 0 where
  pub above_next : (i : ℕ) → HasWeight v i → Below (next_quotient method v s i) (as_quotient method d)
  pub below_last : (i : ℕ) → HasWeight v i → 0 < slice_index s i → Below (as_quotient method d) (last_quotient method v s i)

-- of the decimal numbers that do so, none has fewer significant digits
pub record IsShortest (method : Divisor) (v s : List ℕ) (d : Quotient) : Type 0 where
  pub separates : Separates method v s d
  pub fewest : (k m up down : ℕ) → m < 10 ^ k → Separates method v s (scaled m up down) → HasDigits k d

-- how many places are looked at: roots have half as many
abbrev pub unit_places : Divisor → ℕ
unit_places Adams = 12
unit_places Dean = 12
unit_places Hill = 6
unit_places Webster = 12
unit_places Jefferson = 12

-- a divisor of the fewest digits, or nothing where no decimal number of so many places does it
abbrev pub IsShortDivisor : Divisor → List ℕ → List ℕ → Option Number → Type 0
IsShortDivisor method v s (Some d) = IsShortest method v s (value_of d)
IsShortDivisor method v s None = (n : ℕ) → ¬ Separates method v s (value_of (record { digits = n; places = unit_places method }))
