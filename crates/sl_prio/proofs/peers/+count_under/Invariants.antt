use Rattle.std.proofs.Common.{◌-◌, length}
use Rattle.sl_prio.proofs.peers.+count_under.Given as goal

abbrev pub decreases-count_under : goal.decreases-count_under
decreases-count_under l = length l.entries.now - l.place
