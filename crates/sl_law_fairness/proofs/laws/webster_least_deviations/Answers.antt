use Rattle.sl_law_fairness.proofs.Deviations.{webster_least_deviations}
use Rattle.sl_law_fairness.proofs.laws.webster_least_deviations.Goals as goal

pub returns : goal.returns
returns c = webster_least_deviations
