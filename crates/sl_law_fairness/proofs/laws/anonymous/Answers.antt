use Rattle.sl_law_fairness.proofs.Renamed.{anonymous}
use Rattle.sl_law_fairness.proofs.laws.anonymous.Goals as goal

pub returns : goal.returns
returns c = anonymous
