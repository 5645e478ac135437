-- the least weight that holds against the entries so far
use Rattle.sl_law_margins.specs.inner.Needed.{IsLeast}
use Rattle.sl_law_margins.specs.inner.Kept.{Holds}
use Rattle.sl_law_margins.proofs.spare.weight_kept.Given as goal

abbrev pub invariant-loop-rival : goal.invariant-loop-rival
invariant-loop-rival l = IsLeast (Holds l.method l.weights l.seats l.entry l.rival) l.kept
