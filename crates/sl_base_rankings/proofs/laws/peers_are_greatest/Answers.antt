use Rattle.sl_base_rankings.proofs.PeerLaws.{peers_are_greatest}
use Rattle.sl_base_rankings.proofs.laws.peers_are_greatest.Goals as goal

pub returns : goal.returns
returns c = peers_are_greatest
