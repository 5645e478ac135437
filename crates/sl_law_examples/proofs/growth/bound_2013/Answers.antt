use Rattle.sl_law_examples.proofs.Growing.{bound_2013}
use Rattle.sl_law_examples.proofs.growth.bound_2013.Goals as goal

pub returns : goal.returns
returns c = bound_2013
