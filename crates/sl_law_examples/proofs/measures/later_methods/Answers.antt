use Rattle.sl_law_examples.proofs.Compared.{later_methods}
use Rattle.sl_law_examples.proofs.measures.later_methods.Goals as goal

pub returns : goal.returns
returns c = later_methods
