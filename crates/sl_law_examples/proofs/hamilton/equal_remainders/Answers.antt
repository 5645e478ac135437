use Rattle.sl_law_examples.proofs.Compared.{equal_remainders}
use Rattle.sl_law_examples.proofs.hamilton.equal_remainders.Goals as goal

pub returns : goal.returns
returns c = equal_remainders
