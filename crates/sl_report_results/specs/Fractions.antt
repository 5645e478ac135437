-- Fractions, and those that can be written in decimals.
use Rattle.std.specs.Prelude.{ℕ, ◌+◌, ◌*◌, ◌/◌, ◌^◌, Bool, ◌&&◌, Option, Some, None, nat_le, nat_lt, if◌then◌else◌}
use Rattle.sl_law_margins.specs.Decimals.{Number}
use Rattle.sl_law_margins.specs.declared.decimal.TheConstants.{MAX_PLACES}
use Rattle.sl_report_results.specs.declared.fraction.Fraction.{Fraction}
use Rattle.sl_base_quotients.specs.declared.ratio.TheConstants.{MAX_NUMERATOR}

-- a fraction has a denominator, and is in the range of quotients
abbrev pub has_decimals : (num den places : ℕ) → Bool
has_decimals num den places = nat_le num MAX_NUMERATOR && (nat_lt 0 den && nat_le places MAX_PLACES)

-- of the numbers of so many places the greatest that is not above a fraction
abbrev pub cut_of : Fraction → ℕ → Number
cut_of f places = record { digits = f.num * 10 ^ places / f.den; places = places }

-- a fraction in decimals of so many places, where it can be written so
abbrev pub decimal_of : Fraction → ℕ → Option Number
decimal_of f places = if has_decimals f.num f.den places then Some (cut_of f places) else None

-- so many of so many in parts of a hundred
abbrev pub percent : (part whole : ℕ) → Fraction
percent part whole = record { num = 100 * part; den = whole }

-- the same, and a twentieth more
abbrev pub percent_half_up : (part whole : ℕ) → Fraction
percent_half_up part whole = record { num = part * 2000 + whole; den = whole * 20 }
