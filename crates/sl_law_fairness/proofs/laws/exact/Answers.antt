use Rattle.sl_law_fairness.proofs.Exact.{exact}
use Rattle.sl_law_fairness.proofs.laws.exact.Goals as goal

pub returns : goal.returns
returns c = exact
