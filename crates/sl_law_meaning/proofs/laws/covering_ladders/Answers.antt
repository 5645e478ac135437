use Rattle.sl_law_meaning.proofs.methods.CoveringProofs.{covering_ladders_law}
use Rattle.sl_law_meaning.proofs.laws.covering_ladders.Goals as goal

pub returns : goal.returns
returns c = covering_ladders_law
