use Rattle.sl_law_examples.proofs.DeanAndHill.{hamilton_loses}
use Rattle.sl_law_examples.proofs.joins.hamilton_loses.Goals as goal

pub returns : goal.returns
returns c = hamilton_loses
