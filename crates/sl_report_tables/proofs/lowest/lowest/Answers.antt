use Rattle.std.proofs.Common.{◌≡◌, ℕ, ◌<◌, arith}
use Rattle.sl_report_tables.proofs.Divisors.{divisor_some, lowest_is}
use Rattle.sl_report_tables.proofs.lowest.lowest.Goals as goal

some : (den : ℕ) → (den ≡ 0 → ⊥) → 0 < den
some den not = omega (arith, not)

pub nonzero_div-result : goal.nonzero_div-result
nonzero_div-result c = divisor_some c.args.fraction.num c.args.fraction.den c.common_divisor-divisor.result (some c.args.fraction.den c.if-den-eq0.false) c.common_divisor-divisor.ensures

pub nonzero_div-result-2 : goal.nonzero_div-result-2
nonzero_div-result-2 c = divisor_some c.args.fraction.num c.args.fraction.den c.common_divisor-divisor.result (some c.args.fraction.den c.if-den-eq0.false) c.common_divisor-divisor.ensures

pub returns : goal.returns
returns c = lowest_is c.args.fraction c.common_divisor-divisor.result (some c.args.fraction.den c.if-den-eq0.false) c.common_divisor-divisor.ensures
