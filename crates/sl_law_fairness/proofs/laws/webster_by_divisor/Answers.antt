use Rattle.sl_law_fairness.proofs.ByDivisor.{webster_by_divisor}
use Rattle.sl_law_fairness.proofs.laws.webster_by_divisor.Goals as goal

pub returns : goal.returns
returns c = webster_by_divisor
