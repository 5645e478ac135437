use Rattle.sl_law_examples.proofs.Compared.{not_near}
use Rattle.sl_law_examples.proofs.quota.not_near.Goals as goal

pub returns : goal.returns
returns c = not_near
