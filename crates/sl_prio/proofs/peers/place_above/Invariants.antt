use Rattle.sl_prio.proofs.peers.place_above.Given as goal

abbrev pub decreases-loop-index : goal.decreases-loop-index
decreases-loop-index l = l.place
