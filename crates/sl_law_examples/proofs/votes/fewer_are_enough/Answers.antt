use Rattle.sl_law_examples.proofs.Threshold.{fewer_are_enough}
use Rattle.sl_law_examples.proofs.votes.fewer_are_enough.Goals as goal

pub returns : goal.returns
returns c = fewer_are_enough
