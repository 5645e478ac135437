-- the first of the greatest claims among the entries so far
use Rattle.sl_ratio.proofs.Firsts.{Found}
use Rattle.sl_ratio.proofs.Searches.{next_search}
use Rattle.sl_law_margins.proofs.claims.greatest_next.Given as goal

abbrev pub invariant-loop-entry : goal.invariant-loop-entry
invariant-loop-entry l = Found (next_search l.method l.weights l.seats) l.entry l.next
