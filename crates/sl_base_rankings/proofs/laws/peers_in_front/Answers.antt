use Rattle.sl_base_rankings.proofs.Fronts.{peers_in_front}
use Rattle.sl_base_rankings.proofs.laws.peers_in_front.Goals as goal

pub returns : goal.returns
returns c = peers_in_front
