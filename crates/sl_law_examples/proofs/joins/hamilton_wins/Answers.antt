use Rattle.sl_law_examples.proofs.DeanAndHill.{hamilton_wins}
use Rattle.sl_law_examples.proofs.joins.hamilton_wins.Goals as goal

pub returns : goal.returns
returns c = hamilton_wins
