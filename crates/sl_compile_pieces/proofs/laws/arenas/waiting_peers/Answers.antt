use Rattle.sl_compile_pieces.proofs.arenas.Peers.{waiting_peers}
use Rattle.sl_compile_pieces.proofs.laws.arenas.waiting_peers.Goals as goal

pub returns : goal.returns
returns c = waiting_peers
