use Rattle.std.proofs.Common.{ap, filter, map, ◌++◌, ◌∙◌, arith}
use Rattle.std.specs.List.{range_with_len}
use Rattle.sl_law_meaning.specs.declared.fault.Item.TheVariants as item
use Rattle.sl_law_meaning.specs.returns.Election.{has_list}
use Rattle.sl_report_parties.proofs.Steps.{filtered_behind}
use Rattle.sl_report_results.proofs.places.push_lists_in.Goals as goal

pub loop-party-preserved : goal.loop-party-preserved
loop-party-preserved c =
    filtered_behind (λ party. item.List c.args.land party) (has_list c.args.returns.now c.args.land) c.loop-party.party c.args.items.now.items _ _ c.is_list.result c.loop-party.invariant
    c.in_ok-push_if.ensures c.is_list.ensures

pub returns : goal.returns
returns c = c.loop-party.invariant ∙ ap (λ n. c.args.items.now.items ++ map (λ party. item.List c.args.land party) (filter (has_list c.args.returns.now c.args.land) (range_with_len 0 n))) (omega (arith, c.parties-party-end.ensures.number))
