use Rattle.std.proofs.Common.{◌≡◌, ◌++◌, filter, map}
use Rattle.std.specs.List.{range_with_len}
use Rattle.sl_law_meaning.specs.declared.fault.Item.TheVariants as item
use Rattle.sl_law_meaning.specs.returns.Election.{has_list}
use Rattle.sl_report_results.proofs.places.push_lists_in.Given as goal

abbrev pub invariant-loop-party : goal.invariant-loop-party
invariant-loop-party l = l.items.items ≡ l.fn.items.items ++ map (λ party. item.List l.land party) (filter (has_list l.returns l.land) (range_with_len 0 l.party))
