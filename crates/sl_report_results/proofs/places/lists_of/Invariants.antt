use Rattle.std.proofs.Common.{◌≡◌, filter, map}
use Rattle.std.specs.List.{range_with_len}
use Rattle.sl_law_meaning.specs.declared.fault.Item.TheVariants as item
use Rattle.sl_law_meaning.specs.returns.Election.{has_list}
use Rattle.sl_report_results.proofs.places.lists_of.Given as goal

abbrev pub invariant-loop-land : goal.invariant-loop-land
invariant-loop-land l = l.items.items ≡ map (λ land. item.List land l.party) (filter (λ land. has_list l.returns land l.party) (range_with_len 0 l.land))
