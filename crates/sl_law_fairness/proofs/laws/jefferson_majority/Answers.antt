use Rattle.sl_law_fairness.proofs.Majorities.{jefferson_majority}
use Rattle.sl_law_fairness.proofs.laws.jefferson_majority.Goals as goal

pub returns : goal.returns
returns c = jefferson_majority
