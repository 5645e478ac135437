use Rattle.sl_law_meaning.proofs.methods.DivisorProofs.{divisor_ladders_law}
use Rattle.sl_law_meaning.proofs.laws.divisor_ladders.Goals as goal

pub returns : goal.returns
returns c = divisor_ladders_law
