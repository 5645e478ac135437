use Rattle.sl_law_fairness.proofs.HamiltonPrinciples.{hamilton_balanced}
use Rattle.sl_law_fairness.proofs.laws.hamilton_balanced.Goals as goal

pub returns : goal.returns
returns c = hamilton_balanced
