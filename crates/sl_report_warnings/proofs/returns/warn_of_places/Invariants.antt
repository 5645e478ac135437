use Rattle.std.proofs.Common.{◌++◌, ◌≡◌}
use Rattle.std.specs.List.{flat_map, range_with_len}
use Rattle.sl_report_warnings.specs.Warnings.{of_place}
use Rattle.sl_report_warnings.proofs.returns.warn_of_places.Given as goal

abbrev pub invariant-loop-land : goal.invariant-loop-land
invariant-loop-land l = l.found.items ≡ l.initial.found.items ++ flat_map (of_place l.counts.returns.now l.party) (range_with_len 0 l.land)
