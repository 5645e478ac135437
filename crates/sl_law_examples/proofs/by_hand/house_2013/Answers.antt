use Rattle.sl_law_examples.proofs.RealHouses.{house_2013}
use Rattle.sl_law_examples.proofs.by_hand.house_2013.Goals as goal

pub returns : goal.returns
returns c = house_2013
