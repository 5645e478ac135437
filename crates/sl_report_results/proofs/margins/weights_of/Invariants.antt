use Rattle.std.proofs.Common.{◌≡◌, map, take}
use Rattle.sl_report_results.proofs.margins.weights_of.Given as goal

abbrev pub invariant-loop-entry : goal.invariant-loop-entry
invariant-loop-entry l = l.weights.items ≡ map (λ x. x.weight) (take l.entry-index l.entries)
