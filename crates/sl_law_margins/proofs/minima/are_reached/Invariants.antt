-- each of the entries so far reaches the greatest next claim by its last seat beyond its minimum
use Rattle.std.proofs.Common.{◌<◌, ℕ, get_or}
use Rattle.sl_base_quotients.specs.Quotient.{AtMost}
use Rattle.sl_base_quotients.specs.Bounds.{HasWeight, last_quotient}
use Rattle.sl_law_margins.proofs.minima.are_reached.Given as goal

abbrev pub invariant-loop-entry : goal.invariant-loop-entry
invariant-loop-entry l = (i : ℕ) → i < l.entry → HasWeight l.weights i → get_or l.minima i 0 < get_or l.seats i 0 → AtMost l.next (last_quotient l.method l.weights l.seats i)
