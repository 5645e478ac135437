use Rattle.sl_law_fairness.proofs.Impossible.{impossibility_alike}
use Rattle.sl_law_fairness.proofs.laws.impossibility_alike.Goals as goal

pub returns : goal.returns
returns c = impossibility_alike
