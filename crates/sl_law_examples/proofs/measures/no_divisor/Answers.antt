use Rattle.sl_law_examples.proofs.Compared.{no_divisor}
use Rattle.sl_law_examples.proofs.measures.no_divisor.Goals as goal

pub returns : goal.returns
returns c = no_divisor
