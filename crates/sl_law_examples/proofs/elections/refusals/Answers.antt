use Rattle.sl_law_examples.proofs.MeaningExamples.{refusals}
use Rattle.sl_law_examples.proofs.elections.refusals.Goals as goal

pub returns : goal.returns
returns c = refusals
