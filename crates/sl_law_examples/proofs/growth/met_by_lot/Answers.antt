use Rattle.sl_law_examples.proofs.Growing.{met_by_lot}
use Rattle.sl_law_examples.proofs.growth.met_by_lot.Goals as goal

pub returns : goal.returns
returns c = met_by_lot
