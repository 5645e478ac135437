use Rattle.sl_law_examples.proofs.MeaningExamples.{ties_and_lots}
use Rattle.sl_law_examples.proofs.elections.ties_and_lots.Goals as goal

pub returns : goal.returns
returns c = ties_and_lots
