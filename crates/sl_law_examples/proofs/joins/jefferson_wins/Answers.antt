use Rattle.sl_law_examples.proofs.DeanAndHill.{jefferson_wins}
use Rattle.sl_law_examples.proofs.joins.jefferson_wins.Goals as goal

pub returns : goal.returns
returns c = jefferson_wins
