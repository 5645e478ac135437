use Rattle.sl_law_meaning.proofs.methods.DrawnLots.{draws}
use Rattle.sl_law_meaning.proofs.laws.draws.Goals as goal

pub returns : goal.returns
returns c = draws
