use Rattle.sl_law_statutes.proofs.Statutes.{winners_up_to_2013}
use Rattle.sl_law_statutes.proofs.laws.winners_up_to_2013.Goals as goal

pub returns : goal.returns
returns c = winners_up_to_2013
