use Rattle.sl_law_fairness.proofs.Quota.{adams_upper_quota}
use Rattle.sl_law_fairness.proofs.laws.adams_upper_quota.Goals as goal

pub returns : goal.returns
returns c = adams_upper_quota
