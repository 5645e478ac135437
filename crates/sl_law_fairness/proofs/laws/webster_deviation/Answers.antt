use Rattle.sl_law_fairness.proofs.Deviating.{webster_deviation}
use Rattle.sl_law_fairness.proofs.laws.webster_deviation.Goals as goal

pub returns : goal.returns
returns c = webster_deviation
