use Rattle.sl_law_fairness.proofs.Parts.{coherent}
use Rattle.sl_law_fairness.proofs.laws.coherent.Goals as goal

pub returns : goal.returns
returns c = coherent
