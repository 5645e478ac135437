-- Whatever entry comes into the hole, the entries are those that came with it there, and the others would be a heap.
use Rattle.std.proofs.Common.{◌≡◌, ◌<◌, ◌-◌, length, IsPermutation, set}
use Rattle.sl_base_quotients.specs.declared.entry.Entry.{Entry}
use Rattle.sl_prio.specs.inner.Heap.{IsHeapBut}
use Rattle.sl_prio.proofs.heap.sink.Given as goal

abbrev pub invariant-loop-child : goal.invariant-loop-child
invariant-loop-child l = record { within : l.hole < length l.entries; same_length : length l.entries ≡ length l.initial.entries; moved : (x : Entry) → IsPermutation (set l.initial.entries l.place x) (set l.entries l.hole x); others : IsHeapBut l.entries l.hole }

abbrev pub decreases-loop-child : goal.decreases-loop-child
decreases-loop-child l = length l.initial.entries - l.hole
