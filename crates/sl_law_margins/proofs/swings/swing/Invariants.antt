-- so many votes may win no seat, and so many win one
use Rattle.std.proofs.Common.{ℕ, ◌-◌, ◌<◌, ◌≤◌}
use Rattle.sl_law_margins.specs.Swings.{WinsASeat, MayWinNone}
use Rattle.sl_law_margins.proofs.swings.swing.Given as goal

abbrev pub invariant-loop-enough : goal.invariant-loop-enough
invariant-loop-enough l =
    (l.few < l.enough) × (l.enough ≤ l.all) × ((y : ℕ) → y ≤ l.few → MayWinNone l.method l.weights l.seats l.from l.to y)
    × WinsASeat l.method l.weights l.seats l.from l.to l.enough

abbrev pub decreases-loop-enough : goal.decreases-loop-enough
decreases-loop-enough l = l.enough - l.few
