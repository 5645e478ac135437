use Rattle.sl_law_examples.proofs.Sharper.{least_most_by_tie}
use Rattle.sl_law_examples.proofs.premises.least_most_by_tie.Goals as goal

pub returns : goal.returns
returns c = least_most_by_tie
