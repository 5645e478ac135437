-- the step is a power of ten with a multiple from low to high
use Rattle.std.proofs.Common.{◌≡◌, ◌-◌, ◌*◌, ◌^◌, ◌≤◌, ℕ}
use Rattle.sl_law_margins.proofs.divisors.roundest.Given as goal

abbrev pub invariant-loop-step : goal.invariant-loop-step
invariant-loop-step l = ((e : ℕ) × (l.step ≡ 10 ^ e)) × ((m : ℕ) × (l.low ≤ m * l.step) × (m * l.step ≤ l.high))

abbrev pub decreases-loop-step : goal.decreases-loop-step
decreases-loop-step l = l.high - l.step
