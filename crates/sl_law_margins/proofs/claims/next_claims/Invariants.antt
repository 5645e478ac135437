-- those of the entries so far that have the next claim
use Rattle.sl_base_quotients.specs.Bounds.{IsNext}
use Rattle.sl_law_margins.proofs.Claimants.{ListsBelow}
use Rattle.sl_law_margins.proofs.claims.next_claims.Given as goal

abbrev pub invariant-loop-entry : goal.invariant-loop-entry
invariant-loop-entry l = ListsBelow (IsNext l.method l.weights l.seats) l.entry l.entries.items
