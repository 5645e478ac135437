use Rattle.sl_law_fairness.proofs.Joining.{adams_joins}
use Rattle.sl_law_fairness.proofs.laws.adams_joins.Goals as goal

pub returns : goal.returns
returns c = adams_joins
