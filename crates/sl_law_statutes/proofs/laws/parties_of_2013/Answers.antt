use Rattle.sl_law_statutes.proofs.Grown.{parties_of_2013}
use Rattle.sl_law_statutes.proofs.laws.parties_of_2013.Goals as goal

pub returns : goal.returns
returns c = parties_of_2013
