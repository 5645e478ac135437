use Rattle.sl_law_fairness.proofs.ByDivisor.{adams_by_divisor}
use Rattle.sl_law_fairness.proofs.laws.adams_by_divisor.Goals as goal

pub returns : goal.returns
returns c = adams_by_divisor
