use Rattle.sl_law_fairness.proofs.MeanRounding.{divisor_between}
use Rattle.sl_law_fairness.proofs.laws.divisor_between.Goals as goal

pub returns : goal.returns
returns c = divisor_between
