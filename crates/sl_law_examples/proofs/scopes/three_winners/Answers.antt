use Rattle.sl_law_examples.proofs.WorkedExamples.{three_winners}
use Rattle.sl_law_examples.proofs.scopes.three_winners.Goals as goal

pub returns : goal.returns
returns c = three_winners
