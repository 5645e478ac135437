use Rattle.std.specs.Int.{IsGcd}
use Rattle.std.proofs.Common.{ℕ}
use Rattle.sl_report_tables.proofs.lowest.common_divisor.Given as goal

-- what divides the two at last divides the two at first
abbrev pub invariant-loop-less : goal.invariant-loop-less
invariant-loop-less l = (g : ℕ) → IsGcd l.greater l.less g → IsGcd l.first l.second g

abbrev pub decreases-loop-less : goal.decreases-loop-less
decreases-loop-less l = l.less
