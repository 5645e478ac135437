-- the first of the least claims among the entries so far
use Rattle.sl_ratio.proofs.Firsts.{Found}
use Rattle.sl_ratio.proofs.Searches.{last_search}
use Rattle.sl_law_margins.proofs.claims.least_last.Given as goal

abbrev pub invariant-loop-entry : goal.invariant-loop-entry
invariant-loop-entry l = Found (last_search l.method l.weights l.seats) l.entry l.last
