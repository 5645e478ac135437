use Rattle.sl_law_statutes.proofs.Grown.{majority_of_2013}
use Rattle.sl_law_statutes.proofs.laws.majority_of_2013.Goals as goal

pub returns : goal.returns
returns c = majority_of_2013
