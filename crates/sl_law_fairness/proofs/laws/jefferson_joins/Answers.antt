use Rattle.sl_law_fairness.proofs.Joining.{jefferson_joins}
use Rattle.sl_law_fairness.proofs.laws.jefferson_joins.Goals as goal

pub returns : goal.returns
returns c = jefferson_joins
