use Rattle.sl_law_examples.proofs.WinnersAbove.{five_unseated}
use Rattle.sl_law_examples.proofs.votes.five_unseated.Goals as goal

pub returns : goal.returns
returns c = five_unseated
