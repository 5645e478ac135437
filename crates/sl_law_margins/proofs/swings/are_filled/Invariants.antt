-- seats for the entries so far, and those that are left
use Rattle.std.proofs.Common.{◌≡◌, ℕ, ◌+◌, List, sum}
use Rattle.std.specs.Prelude.{slice_index}
use Rattle.sl_law_margins.specs.VotesToSpare.{with_fewer}
use Rattle.sl_law_margins.specs.inner.Filled.{Fills}
use Rattle.sl_law_margins.proofs.swings.are_filled.Given as goal

abbrev pub invariant-loop-rival : goal.invariant-loop-rival
invariant-loop-rival l =
    (u : List ℕ) × Fills l.method (with_fewer l.weights l.from l.moved) l.claim l.to l.rival l.left u × (sum u + l.left + slice_index l.seats l.to ≡ sum l.seats)
