use Rattle.sl_law_fairness.proofs.Optimal.{jefferson_least_most}
use Rattle.sl_law_fairness.proofs.laws.jefferson_least_most.Goals as goal

pub returns : goal.returns
returns c = jefferson_least_most
