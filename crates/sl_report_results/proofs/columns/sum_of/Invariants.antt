use Rattle.std.proofs.Common.{◌≡◌, take}
use Rattle.std.specs.Prelude.{sum}
use Rattle.sl_report_parties.specs.Sums.{capped}
use Rattle.sl_report_results.proofs.columns.sum_of.Given as goal

abbrev pub invariant-loop-value : goal.invariant-loop-value
invariant-loop-value l = l.sum ≡ capped (sum (take l.value-index l.value-items))
