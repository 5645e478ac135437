use Rattle.std.proofs.Common.{◌++◌, ◌≡◌}
use Rattle.std.specs.List.{flat_map, range_with_len}
use Rattle.sl_report_warnings.specs.Warnings.{of_party}
use Rattle.sl_report_warnings.proofs.returns.warn_of_parties.Given as goal

abbrev pub invariant-loop-party : goal.invariant-loop-party
invariant-loop-party l = l.found.items ≡ l.initial.found.items ++ flat_map (of_party l.counts.returns.now) (range_with_len 0 l.party)
