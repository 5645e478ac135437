use Rattle.sl_law_fairness.proofs.NearQuota.{webster_near_quota}
use Rattle.sl_law_fairness.proofs.laws.webster_near_quota.Goals as goal

pub returns : goal.returns
returns c = webster_near_quota
