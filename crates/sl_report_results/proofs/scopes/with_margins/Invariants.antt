use Rattle.std.proofs.Common.{◌≡◌, map, take}
use Rattle.std.specs.List.{zip}
use Rattle.sl_report_results.specs.Scopes.{with_margins}
use Rattle.sl_report_results.proofs.scopes.with_margins.Given as goal

abbrev pub invariant-loop-number : goal.invariant-loop-number
invariant-loop-number l = l.all.items ≡ map (λ x. with_margins l.divisor l.border x.0 x.1.0 x.1.1) (take l.number (zip l.entries (zip l.lacking l.marks)))
