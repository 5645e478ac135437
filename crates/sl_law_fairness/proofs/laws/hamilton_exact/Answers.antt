use Rattle.sl_law_fairness.proofs.HamiltonPrinciples.{hamilton_exact}
use Rattle.sl_law_fairness.proofs.laws.hamilton_exact.Goals as goal

pub returns : goal.returns
returns c = hamilton_exact
