use Rattle.sl_law_meaning.proofs.methods.BoundsProofs.{equal_bounds}
use Rattle.sl_law_meaning.proofs.laws.bounds.equal_bounds.Goals as goal

pub returns : goal.returns
returns c = equal_bounds
