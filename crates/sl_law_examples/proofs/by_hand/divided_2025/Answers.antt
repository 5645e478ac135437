use Rattle.sl_law_examples.proofs.ByHand.{divided_2025}
use Rattle.sl_law_examples.proofs.by_hand.divided_2025.Goals as goal

pub returns : goal.returns
returns c = divided_2025
