use Rattle.std.proofs.Common.{◌-◌, length}
use Rattle.sl_prio.proofs.peers.+mark_peers.Given as goal

abbrev pub decreases-mark_peers : goal.decreases-mark_peers
decreases-mark_peers l = length l.entries.now - l.place
