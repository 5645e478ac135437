use Rattle.sl_law_meaning.proofs.methods.HouseProofs.{growths}
use Rattle.sl_law_meaning.proofs.laws.growths.Goals as goal

pub returns : goal.returns
returns c = growths
