-- Fractions in lowest terms (docs/report.md).
use Rattle.std.specs.Prelude.{ℕ, zero, suc, ◌/◌, ◌%◌, ◌==◌, ◌&&◌, if◌then◌else◌}
use Rattle.sl_report_results.specs.declared.fraction.Fraction.{Fraction}

-- the greatest number up to n that divides two numbers; 1 divides all
abbrev pub common_up_to : ℕ → ℕ → ℕ → ℕ
common_up_to zero a b = 1
common_up_to (suc n) a b = if a % suc n == 0 && b % suc n == 0 then suc n else common_up_to n a b

-- both numbers by the greatest one that divides them; a fraction without a denominator stays as it is
abbrev pub lowest_of : Fraction → Fraction
lowest_of f = let divisor = common_up_to f.den f.num f.den in record { num = f.num / divisor; den = f.den / divisor }
