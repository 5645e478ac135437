-- each of the entries so far has its minimum
use Rattle.std.proofs.Common.{◌≡◌, ◌<◌, ◌≤◌, ℕ, get_or}
use Rattle.sl_law_margins.proofs.minima.are_met.Given as goal

abbrev pub invariant-loop-entry : goal.invariant-loop-entry
invariant-loop-entry l = (i : ℕ) → i < l.entry → (get_or l.minima i 0 ≤ get_or l.seats i 0) × (get_or l.weights i 0 ≡ 0 → get_or l.seats i 0 ≡ get_or l.minima i 0)
