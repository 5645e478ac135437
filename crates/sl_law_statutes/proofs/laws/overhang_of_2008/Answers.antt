use Rattle.sl_law_statutes.proofs.Statutes.{overhang_of_2008}
use Rattle.sl_law_statutes.proofs.laws.overhang_of_2008.Goals as goal

pub returns : goal.returns
returns c = overhang_of_2008
