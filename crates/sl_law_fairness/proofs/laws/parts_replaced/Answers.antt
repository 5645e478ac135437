use Rattle.sl_law_fairness.proofs.Replaced.{parts_replaced}
use Rattle.sl_law_fairness.proofs.laws.parts_replaced.Goals as goal

pub returns : goal.returns
returns c = parts_replaced
