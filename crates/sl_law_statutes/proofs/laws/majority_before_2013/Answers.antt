use Rattle.sl_law_statutes.proofs.BeforeOverhang.{majority_before_2013}
use Rattle.sl_law_statutes.proofs.laws.majority_before_2013.Goals as goal

pub returns : goal.returns
returns c = majority_before_2013
