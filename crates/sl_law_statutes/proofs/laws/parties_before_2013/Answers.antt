use Rattle.sl_law_statutes.proofs.Overhang.{parties_before_2013}
use Rattle.sl_law_statutes.proofs.laws.parties_before_2013.Goals as goal

pub returns : goal.returns
returns c = parties_before_2013
