use Rattle.std.proofs.Common.{◌≡◌}
use Rattle.std.specs.Prelude.{flat_map}
use Rattle.std.specs.List.{range_with_len}
use Rattle.sl_law_meaning.specs.meaning.Scopes.{lists_in_land}
use Rattle.sl_report_results.proofs.places.all_lists.Given as goal

abbrev pub invariant-loop-land : goal.invariant-loop-land
invariant-loop-land l = l.items.items ≡ flat_map (lists_in_land l.returns) (range_with_len 0 l.land)
