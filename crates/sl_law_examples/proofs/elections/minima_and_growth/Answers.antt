use Rattle.sl_law_examples.proofs.MeaningExamples.{minima_and_growth}
use Rattle.sl_law_examples.proofs.elections.minima_and_growth.Goals as goal

pub returns : goal.returns
returns c = minima_and_growth
