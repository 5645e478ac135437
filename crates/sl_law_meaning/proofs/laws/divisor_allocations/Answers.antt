use Rattle.sl_law_meaning.proofs.methods.DivisorProofs.{divisor_allocations}
use Rattle.sl_law_meaning.proofs.laws.divisor_allocations.Goals as goal

pub returns : goal.returns
returns c = divisor_allocations
