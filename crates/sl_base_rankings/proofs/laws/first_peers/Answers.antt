use Rattle.sl_base_rankings.proofs.LawProofs.{first_peers}
use Rattle.sl_base_rankings.proofs.laws.first_peers.Goals as goal

pub returns : goal.returns
returns c = first_peers
