-- None of the names gone through so far is the index of a peer.
use Rattle.sl_prio.specs.inner.Heap.{peers_under}
use Rattle.sl_prio.specs.inner.Marks.{IsPassed}
use Rattle.sl_prio.proofs.peers.first_named.Given as goal

abbrev pub invariant-loop-name : goal.invariant-loop-name
invariant-loop-name l = IsPassed l.lot l.name (peers_under l.top l.entries 0)
