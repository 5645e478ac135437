use Rattle.sl_law_fairness.proofs.MeanRounding.{dean_by_divisor}
use Rattle.sl_law_fairness.proofs.laws.dean_by_divisor.Goals as goal

pub returns : goal.returns
returns c = dean_by_divisor
