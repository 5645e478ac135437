use Rattle.sl_law_meaning.proofs.methods.WalkProofs.{walks}
use Rattle.sl_law_meaning.proofs.laws.walks.Goals as goal

pub returns : goal.returns
returns c = walks
