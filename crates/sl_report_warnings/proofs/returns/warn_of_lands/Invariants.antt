use Rattle.std.proofs.Common.{◌++◌, ◌≡◌}
use Rattle.std.specs.List.{flat_map, range_with_len}
use Rattle.sl_report_warnings.specs.Warnings.{of_land}
use Rattle.sl_report_warnings.proofs.returns.warn_of_lands.Given as goal

abbrev pub invariant-loop-land : goal.invariant-loop-land
invariant-loop-land l = l.found.items ≡ l.initial.found.items ++ flat_map (of_land l.counts.returns.now) (range_with_len 0 l.land)
