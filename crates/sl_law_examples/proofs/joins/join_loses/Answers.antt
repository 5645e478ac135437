use Rattle.sl_law_examples.proofs.DeanAndHill.{join_loses}
use Rattle.sl_law_examples.proofs.joins.join_loses.Goals as goal

pub returns : goal.returns
returns c = join_loses
