use Rattle.sl_law_examples.proofs.WinnersAbove.{no_method_gives}
use Rattle.sl_law_examples.proofs.votes.no_method_gives.Goals as goal

pub returns : goal.returns
returns c = no_method_gives
