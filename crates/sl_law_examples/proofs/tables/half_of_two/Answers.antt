use Rattle.sl_law_examples.proofs.BesideIndependent.{half_of_two}
use Rattle.sl_law_examples.proofs.tables.half_of_two.Goals as goal

pub returns : goal.returns
returns c = half_of_two
