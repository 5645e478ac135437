use Rattle.sl_law_meaning.proofs.methods.HouseProofs.{growth_batches}
use Rattle.sl_law_meaning.proofs.laws.growth_batches.Goals as goal

pub returns : goal.returns
returns c = growth_batches
