use Rattle.sl_law_fairness.proofs.Impossible.{impossibility}
use Rattle.sl_law_fairness.proofs.laws.impossibility.Goals as goal

pub returns : goal.returns
returns c = impossibility
