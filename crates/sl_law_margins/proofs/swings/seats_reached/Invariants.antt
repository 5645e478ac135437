-- the last seat so far is by a claim that is no smaller
use Rattle.std.proofs.Common.{◌-◌, ◌<◌, ◌≤◌}
use Rattle.sl_base_quotients.specs.Quotient.{AtMost, quotient}
use Rattle.sl_law_margins.proofs.swings.seats_reached.Given as goal

abbrev pub invariant-loop-seats : goal.invariant-loop-seats
invariant-loop-seats l = (l.seats ≤ l.most) × (0 < l.seats → AtMost l.claim (quotient l.method l.weight (l.seats - 1)))

-- proposed from the loop's first test
abbrev pub decreases-loop-seats : goal.decreases-loop-seats
decreases-loop-seats l = l.most - l.seats
