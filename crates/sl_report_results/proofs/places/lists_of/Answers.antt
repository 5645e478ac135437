use Rattle.std.proofs.Common.{ap, filter, map, ◌∙◌, arith}
use Rattle.std.specs.List.{range_with_len}
use Rattle.sl_law_meaning.specs.declared.fault.Item.TheVariants as item
use Rattle.sl_law_meaning.specs.returns.Election.{has_list}
use Rattle.sl_report_parties.proofs.Steps.{filtered_more}
use Rattle.sl_report_results.proofs.places.lists_of.Goals as goal

pub loop-land-preserved : goal.loop-land-preserved
loop-land-preserved c =
    filtered_more (λ land. item.List land c.args.party) (λ land. has_list c.args.returns.now land c.args.party) c.loop-land.land _ _ c.is_list.result c.loop-land.invariant
    c.in_ok-push_if.ensures c.is_list.ensures

pub returns : goal.returns
returns c = c.loop-land.invariant ∙ ap (λ n. map (λ land. item.List land c.args.party) (filter (λ land. has_list c.args.returns.now land c.args.party) (range_with_len 0 n))) (omega (arith, c.lands-land-end.ensures.number))
