use Rattle.sl_law_examples.proofs.Joined.{jefferson_by_tie}
use Rattle.sl_law_examples.proofs.joins.jefferson_by_tie.Goals as goal

pub returns : goal.returns
returns c = jefferson_by_tie
