use Rattle.sl_law_fairness.proofs.LeastDivisor.{least_divisor_decides}
use Rattle.sl_law_fairness.proofs.laws.least_divisor_decides.Goals as goal

pub returns : goal.returns
returns c = least_divisor_decides
