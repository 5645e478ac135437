-- a power of ten
use Rattle.std.proofs.Common.{◌-◌}
use Rattle.sl_law_margins.specs.inner.Units.{IsPowerOfTen}
use Rattle.sl_law_margins.proofs.divisors.power_from.Given as goal

abbrev pub invariant-loop-power : goal.invariant-loop-power
invariant-loop-power l = IsPowerOfTen l.power

abbrev pub decreases-loop-power : goal.decreases-loop-power
decreases-loop-power l = l.low - l.power
