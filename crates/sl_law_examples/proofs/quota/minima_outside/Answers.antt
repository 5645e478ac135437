use Rattle.sl_law_examples.proofs.OutsideQuota.{minima_outside}
use Rattle.sl_law_examples.proofs.quota.minima_outside.Goals as goal

pub returns : goal.returns
returns c = minima_outside
