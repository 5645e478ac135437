-- the least weight that overtakes a rival among the entries so far
use Rattle.sl_law_margins.specs.inner.Needed.{IsNeeded}
use Rattle.sl_law_margins.proofs.votes.weight_needed.Given as goal

abbrev pub invariant-loop-rival : goal.invariant-loop-rival
invariant-loop-rival l = IsNeeded l.method l.weights l.minima l.seats l.entry l.rival l.needed
