use Rattle.sl_law_examples.proofs.Joined.{adams_by_tie}
use Rattle.sl_law_examples.proofs.joins.adams_by_tie.Goals as goal

pub returns : goal.returns
returns c = adams_by_tie
