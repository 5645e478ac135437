use Rattle.sl_law_fairness.proofs.LeastIsHamilton.{least_deviation_is_hamilton}
use Rattle.sl_law_fairness.proofs.laws.least_deviation_is_hamilton.Goals as goal

pub returns : goal.returns
returns c = least_deviation_is_hamilton
