use Rattle.sl_law_statutes.proofs.Grown.{lists_of_2013}
use Rattle.sl_law_statutes.proofs.laws.lists_of_2013.Goals as goal

pub returns : goal.returns
returns c = lists_of_2013
