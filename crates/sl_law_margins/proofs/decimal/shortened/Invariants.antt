-- the number is the same, in fewer places
use Rattle.std.proofs.Common.{◌≡◌, ◌*◌, ◌^◌, ◌≤◌}
use Rattle.sl_law_margins.proofs.decimal.shortened.Given as goal

abbrev pub invariant-loop-left : goal.invariant-loop-left
invariant-loop-left l = (l.digits * 10 ^ l.places ≡ l.units * 10 ^ l.left) × (l.left ≤ l.places)

abbrev pub decreases-loop-left : goal.decreases-loop-left
decreases-loop-left l = l.left
