use Rattle.sl_law_fairness.proofs.HamiltonPrinciples.{hamilton_anonymous}
use Rattle.sl_law_fairness.proofs.laws.hamilton_anonymous.Goals as goal

pub returns : goal.returns
returns c = hamilton_anonymous
