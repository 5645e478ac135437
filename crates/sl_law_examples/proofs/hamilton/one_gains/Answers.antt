use Rattle.sl_law_examples.proofs.Compared.{one_gains}
use Rattle.sl_law_examples.proofs.hamilton.one_gains.Goals as goal

pub returns : goal.returns
returns c = one_gains
