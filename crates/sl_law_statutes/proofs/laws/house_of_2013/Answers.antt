use Rattle.sl_law_statutes.proofs.Grown.{house_of_2013}
use Rattle.sl_law_statutes.proofs.laws.house_of_2013.Goals as goal

pub returns : goal.returns
returns c = house_of_2013
