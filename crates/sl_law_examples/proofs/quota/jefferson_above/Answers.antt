use Rattle.sl_law_examples.proofs.OutsideQuota.{jefferson_above}
use Rattle.sl_law_examples.proofs.quota.jefferson_above.Goals as goal

pub returns : goal.returns
returns c = jefferson_above
