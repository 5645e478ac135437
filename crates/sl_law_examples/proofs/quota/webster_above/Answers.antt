use Rattle.sl_law_examples.proofs.OutsideQuota.{webster_above}
use Rattle.sl_law_examples.proofs.quota.webster_above.Goals as goal

pub returns : goal.returns
returns c = webster_above
