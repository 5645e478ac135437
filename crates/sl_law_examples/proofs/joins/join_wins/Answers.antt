use Rattle.sl_law_examples.proofs.DeanAndHill.{join_wins}
use Rattle.sl_law_examples.proofs.joins.join_wins.Goals as goal

pub returns : goal.returns
returns c = join_wins
