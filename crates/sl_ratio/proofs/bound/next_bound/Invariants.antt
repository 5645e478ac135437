use Rattle.std.proofs.Common.{length}
use Rattle.sl_ratio.proofs.Firsts.{Found}
use Rattle.sl_ratio.proofs.Searches.{next_search}
use Rattle.sl_ratio.proofs.bound.next_bound.Given as goal

abbrev pub invariant-loop-weight : goal.invariant-loop-weight
invariant-loop-weight l = Found (next_search l.method l.weights l.seats) (length l.yielded) l.next
