use Rattle.sl_law_examples.proofs.MissingPremises.{majority_by_minima}
use Rattle.sl_law_examples.proofs.premises.majority_by_minima.Goals as goal

pub returns : goal.returns
returns c = majority_by_minima
