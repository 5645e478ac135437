-- Quotients, their order by cross products, and those of the divisor methods (docs/methods.md, section 1).
use Rattle.std.specs.Prelude.{◌≡◌, ℕ, ◌+◌, ◌*◌, ◌<◌, ◌≤◌, Bool, true, false}
use Rattle.std.specs.declared.cmp.Ordering.{Ordering}
use Rattle.std.specs.Ordering.{nat_cmp}
use Rattle.sl_base_quotients.specs.declared.ratio.TheConstants.{MAX_NUMERATOR, MAX_DENOMINATOR}
use Rattle.sl_base_quotients.specs.declared.method.Divisor.{Divisor}
use Rattle.sl_base_quotients.specs.declared.method.Divisor.TheVariants.{Adams, Dean, Hill, Webster, Jefferson}

-- a quotient as it came, not reduced
pub record Quotient : Type 0 where
  pub num : ℕ
  pub den : ℕ

-- both parts are in a ratio's range
pub record FitsRatio (q : Quotient) : Type 0 where
  pub positive : 1 ≤ q.num
  pub num : q.num ≤ MAX_NUMERATOR
  pub den : q.den ≤ MAX_DENOMINATOR

-- the order of quotients, by cross products. Numerators are positive, so a quotient with denominator 0 is infinite:
-- two of them are equal, and each is greater than any other
abbrev pub compare : Quotient → Quotient → Ordering
compare x y = nat_cmp (x.num * y.den) (y.num * x.den)

-- x is no greater than y
abbrev pub AtMost : Quotient → Quotient → Type 0
AtMost x y = x.num * y.den ≤ y.num * x.den

-- two quotients are equal
abbrev pub SameQuotient : Quotient → Quotient → Type 0
SameQuotient x y = x.num * y.den ≡ y.num * x.den

-- x is smaller than y
abbrev pub Below : Quotient → Quotient → Type 0
Below x y = x.num * y.den < y.num * x.den

-- the quotient of a weight v for the next seat, with a seats held
abbrev pub quotient : Divisor → ℕ → ℕ → Quotient
quotient Adams v a = record { num = v; den = a }
quotient Dean v a = record { num = v * (2 * a + 1); den = 2 * a * (a + 1) }
quotient Hill v a = record { num = v * v; den = a * (a + 1) }
quotient Webster v a = record { num = 2 * v; den = 2 * a + 1 }
quotient Jefferson v a = record { num = v; den = a + 1 }

-- the number of a divisor method
abbrev pub method_number : Divisor → ℕ
method_number Adams = 0
method_number Dean = 1
method_number Hill = 2
method_number Webster = 3
method_number Jefferson = 4

-- the methods that round a weight by a divisor: up, to the nearest number, or down
abbrev pub is_rounding : Divisor → Bool
is_rounding Adams = true
is_rounding Dean = false
is_rounding Hill = false
is_rounding Webster = true
is_rounding Jefferson = true
