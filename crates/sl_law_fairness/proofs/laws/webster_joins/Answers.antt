use Rattle.sl_law_fairness.proofs.WebsterJoining.{webster_joins}
use Rattle.sl_law_fairness.proofs.laws.webster_joins.Goals as goal

pub returns : goal.returns
returns c = webster_joins
