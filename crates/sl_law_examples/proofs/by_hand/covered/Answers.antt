use Rattle.sl_law_examples.proofs.ByHand.{covered}
use Rattle.sl_law_examples.proofs.by_hand.covered.Goals as goal

pub returns : goal.returns
returns c = covered
