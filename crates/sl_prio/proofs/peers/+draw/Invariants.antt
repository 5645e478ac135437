use Rattle.std.proofs.Common.{◌-◌, length}
use Rattle.sl_prio.proofs.peers.+draw.Given as goal

abbrev pub decreases-draw : goal.decreases-draw
decreases-draw l = length l.entries.now - l.place
