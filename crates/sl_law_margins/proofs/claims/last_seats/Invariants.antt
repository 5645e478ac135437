-- those of the entries so far that won the last seat
use Rattle.sl_base_quotients.specs.Bounds.{IsLast}
use Rattle.sl_law_margins.proofs.Claimants.{ListsBelow}
use Rattle.sl_law_margins.proofs.claims.last_seats.Given as goal

abbrev pub invariant-loop-entry : goal.invariant-loop-entry
invariant-loop-entry l = ListsBelow (IsLast l.method l.weights l.seats) l.entry l.entries.items
