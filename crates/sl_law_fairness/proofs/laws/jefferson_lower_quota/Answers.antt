use Rattle.sl_law_fairness.proofs.Quota.{jefferson_lower_quota}
use Rattle.sl_law_fairness.proofs.laws.jefferson_lower_quota.Goals as goal

pub returns : goal.returns
returns c = jefferson_lower_quota
