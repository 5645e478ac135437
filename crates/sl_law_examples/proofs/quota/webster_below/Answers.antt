use Rattle.sl_law_examples.proofs.OutsideQuota.{webster_below}
use Rattle.sl_law_examples.proofs.quota.webster_below.Goals as goal

pub returns : goal.returns
returns c = webster_below
