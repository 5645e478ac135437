use Rattle.sl_law_fairness.proofs.MeanRounding.{hill_by_divisor}
use Rattle.sl_law_fairness.proofs.laws.hill_by_divisor.Goals as goal

pub returns : goal.returns
returns c = hill_by_divisor
