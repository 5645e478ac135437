use Rattle.sl_law_fairness.proofs.ByDivisor.{jefferson_by_divisor}
use Rattle.sl_law_fairness.proofs.laws.jefferson_by_divisor.Goals as goal

pub returns : goal.returns
returns c = jefferson_by_divisor
