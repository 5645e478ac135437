-- Numbers of units of 10 ^ -places, as divisors are looked for.
use Rattle.std.specs.Prelude.{◌≡◌, ℕ, ◌+◌, ◌*◌, ◌^◌, ◌<◌, ◌≤◌, ◌↔◌, Option, Some, None, MatchOption}
use Rattle.sl_base_quotients.specs.declared.method.Divisor.{Divisor}
use Rattle.sl_base_quotients.specs.Quotient.{Quotient, Below}
use Rattle.sl_law_margins.specs.Decimals.{value_of}
use Rattle.sl_law_margins.specs.Divisors.{as_quotient, unit_places}

-- n units as a divisor
abbrev pub units : Divisor → ℕ → Quotient
units method n = value_of (record { digits = n; places = unit_places method })

-- exactly the numbers from r on have the property
abbrev pub IsFrom : (ℕ → Type 0) → ℕ → Type 0
IsFrom P r = (n : ℕ) → P n ↔ (r ≤ n)

-- exactly the numbers up to r have it
abbrev pub IsUpTo : (ℕ → Type 0) → ℕ → Type 0
IsUpTo P r = (n : ℕ) → P n ↔ (n ≤ r)

-- so many units are above a claim, or below it
abbrev pub IsUnitsAbove : Divisor → Quotient → ℕ → Type 0
IsUnitsAbove method claim n = Below claim (as_quotient method (units method n))

abbrev pub IsUnitsBelow : Divisor → Quotient → ℕ → Type 0
IsUnitsBelow method claim n = Below (as_quotient method (units method n)) claim

-- the greatest number of units below a claim; nothing where there is no claim, or an infinite one
abbrev pub IsHighest : Divisor → Option Quotient → Option ℕ → Type 0
IsHighest method (Some claim) (Some high) = (0 < claim.den) × IsUpTo (IsUnitsBelow method claim) high
IsHighest method (Some claim) None = claim.den ≡ 0
IsHighest method None (Some high) = ⊥
IsHighest method None None = Unit {0}

-- x is a multiple of 10 ^ e from low to high, and there is none of 10 ^ (e + 1)
pub record IsRoundest (low high x : ℕ) : Type 0 where
  pub from : low ≤ x
  pub up_to : x ≤ high
  pub zeros : ℕ
  pub times : ℕ
  pub multiple : x ≡ times * 10 ^ zeros
  pub no_more : (m : ℕ) → low ≤ m * 10 ^ (zeros + 1) → ¬ (m * 10 ^ (zeros + 1) ≤ high)

-- x is a power of ten
abbrev pub IsPowerOfTen : ℕ → Type 0
IsPowerOfTen x = (e : ℕ) × (x ≡ 10 ^ e)

-- between the bounds the roundest number, if there is one; without an upper bound a power of ten
abbrev pub IsRound : ℕ → Option ℕ → Option ℕ → Type 0
IsRound low (Some high) found = MatchOption found (high < low) (IsRoundest low high)
IsRound low None found = MatchOption found ⊥ (λ x. IsPowerOfTen x × (low ≤ x))
