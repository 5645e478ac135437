use Rattle.std.proofs.Common.{◌≡◌, take}
use Rattle.std.specs.Prelude.{sum_by}
use Rattle.sl_report_parties.specs.Sums.{capped}
use Rattle.sl_report_results.proofs.scopes.weight_in.Given as goal

abbrev pub invariant-loop-entry : goal.invariant-loop-entry
invariant-loop-entry l = l.weight ≡ capped (sum_by (λ x. x.weight) (take l.entry-index l.entries))
