use Rattle.std.proofs.Common.{◌≡◌, map, take}
use Rattle.sl_report_results.specs.Scopes.{quota_entry}
use Rattle.sl_report_results.proofs.scopes.with_quota.Given as goal

abbrev pub invariant-loop-entry : goal.invariant-loop-entry
invariant-loop-entry l = l.all.items ≡ map (quota_entry l.seats l.weight) (take l.entry-index l.entries)
