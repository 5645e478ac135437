use Rattle.sl_law_examples.proofs.Remainders.{alabama}
use Rattle.sl_law_examples.proofs.hamilton.alabama.Goals as goal

pub returns : goal.returns
returns c = alabama
