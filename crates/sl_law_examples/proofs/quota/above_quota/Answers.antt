use Rattle.sl_law_examples.proofs.DeanAndHill.{above_quota}
use Rattle.sl_law_examples.proofs.quota.above_quota.Goals as goal

pub returns : goal.returns
returns c = above_quota
