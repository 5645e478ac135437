use Rattle.sl_law_statutes.proofs.Statutes.{are_well_formed}
use Rattle.sl_law_statutes.proofs.laws.are_well_formed.Goals as goal

pub returns : goal.returns
returns c = are_well_formed
