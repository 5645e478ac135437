use Rattle.sl_law_examples.proofs.WorkedExamples.{hamilton_majority}
use Rattle.sl_law_examples.proofs.scopes.hamilton_majority.Goals as goal

pub returns : goal.returns
returns c = hamilton_majority
