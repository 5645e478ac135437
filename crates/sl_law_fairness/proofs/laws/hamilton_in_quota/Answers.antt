use Rattle.sl_law_fairness.proofs.Quota.{hamilton_in_quota}
use Rattle.sl_law_fairness.proofs.laws.hamilton_in_quota.Goals as goal

pub returns : goal.returns
returns c = hamilton_in_quota
