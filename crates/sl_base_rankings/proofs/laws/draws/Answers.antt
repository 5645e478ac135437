use Rattle.sl_base_rankings.proofs.LawProofs.{draws}
use Rattle.sl_base_rankings.proofs.laws.draws.Goals as goal

pub returns : goal.returns
returns c = draws
