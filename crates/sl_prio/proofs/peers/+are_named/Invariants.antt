use Rattle.std.proofs.Common.{◌-◌, length}
use Rattle.sl_prio.proofs.peers.+are_named.Given as goal

abbrev pub decreases-are_named : goal.decreases-are_named
decreases-are_named l = length l.entries.now - l.place
