use Rattle.sl_law_meaning.proofs.methods.HamiltonProofs.{hamilton_ladders_law}
use Rattle.sl_law_meaning.proofs.laws.hamilton_ladders.Goals as goal

pub returns : goal.returns
returns c = hamilton_ladders_law
