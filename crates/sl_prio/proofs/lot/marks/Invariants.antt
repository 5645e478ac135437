-- The names gone through so far are marked.
use Rattle.std.proofs.Common.{take}
use Rattle.sl_prio.specs.inner.Marks.{AreMarks, names}
use Rattle.sl_prio.proofs.lot.marks.Given as goal

abbrev pub invariant-loop-named : goal.invariant-loop-named
invariant-loop-named l = AreMarks (names (take l.named-index l.lot)) l.marks
