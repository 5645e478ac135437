use Rattle.std.proofs.Common.{◌≡◌, map, take}
use Rattle.sl_report_results.proofs.margins.held_of.Given as goal

abbrev pub invariant-loop-entry : goal.invariant-loop-entry
invariant-loop-entry l = l.held.items ≡ map (λ x. x.seats) (take l.entry-index l.entries)
