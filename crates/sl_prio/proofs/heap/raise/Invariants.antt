-- With the entry that is carried in the gap, the entries are those that came with it in the hole, and only it may be greater than its parent.
use Rattle.std.proofs.Common.{◌≡◌, ◌<◌, length, IsPermutation, set}
use Rattle.sl_prio.specs.inner.Heap.{MayRise}
use Rattle.sl_prio.proofs.heap.raise.Given as goal

abbrev pub invariant-loop-parent : goal.invariant-loop-parent
invariant-loop-parent l = record { within : l.hole < length l.entries; same_length : length l.entries ≡ length l.initial.entries; moved : IsPermutation (set l.initial.entries l.place l.entry) (set l.entries l.hole l.entry); rises : MayRise (set l.entries l.hole l.entry) l.hole }

abbrev pub decreases-loop-parent : goal.decreases-loop-parent
decreases-loop-parent l = l.hole
