use Rattle.sl_law_meaning.proofs.methods.HamiltonProofs.{hamilton_allocations}
use Rattle.sl_law_meaning.proofs.laws.hamilton_allocations.Goals as goal

pub returns : goal.returns
returns c = hamilton_allocations
