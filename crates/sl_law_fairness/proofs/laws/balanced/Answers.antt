use Rattle.sl_law_fairness.proofs.NearQuota.{balanced}
use Rattle.sl_law_fairness.proofs.laws.balanced.Goals as goal

pub returns : goal.returns
returns c = balanced
