use Rattle.sl_law_examples.proofs.Remainders.{not_coherent}
use Rattle.sl_law_examples.proofs.hamilton.not_coherent.Goals as goal

pub returns : goal.returns
returns c = not_coherent
