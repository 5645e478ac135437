use Rattle.sl_law_statutes.proofs.Statutes.{lists_up_to_2008}
use Rattle.sl_law_statutes.proofs.laws.lists_up_to_2008.Goals as goal

pub returns : goal.returns
returns c = lists_up_to_2008
