use Rattle.sl_law_meaning.proofs.methods.LadderProofs.{batches}
use Rattle.sl_law_meaning.proofs.laws.batches.Goals as goal

pub returns : goal.returns
returns c = batches
