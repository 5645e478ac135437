use Rattle.sl_law_examples.proofs.ByHand.{quoted_2005}
use Rattle.sl_law_examples.proofs.by_hand.quoted_2005.Goals as goal

pub returns : goal.returns
returns c = quoted_2005
