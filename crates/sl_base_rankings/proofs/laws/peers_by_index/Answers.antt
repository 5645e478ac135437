use Rattle.sl_base_rankings.proofs.PeerLaws.{peers_by_index}
use Rattle.sl_base_rankings.proofs.laws.peers_by_index.Goals as goal

pub returns : goal.returns
returns c = peers_by_index
