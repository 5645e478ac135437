use Rattle.sl_law_examples.proofs.DeanAndHill.{below_quota}
use Rattle.sl_law_examples.proofs.quota.below_quota.Goals as goal

pub returns : goal.returns
returns c = below_quota
