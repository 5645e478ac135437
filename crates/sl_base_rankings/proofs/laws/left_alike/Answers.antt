use Rattle.sl_base_rankings.proofs.LawProofs.{left_alike}
use Rattle.sl_base_rankings.proofs.laws.left_alike.Goals as goal

pub returns : goal.returns
returns c = left_alike
