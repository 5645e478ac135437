use Rattle.std.proofs.Common.{ap, flat_map, ◌∙◌, arith}
use Rattle.std.specs.List.{range_with_len}
use Rattle.sl_law_meaning.specs.meaning.Scopes.{lists_in_land}
use Rattle.sl_report_parties.proofs.Steps.{pieces_more}
use Rattle.sl_report_results.proofs.places.all_lists.Goals as goal

pub loop-land-preserved : goal.loop-land-preserved
loop-land-preserved c = pieces_more (lists_in_land c.args.returns.now) c.loop-land.land _ _ c.loop-land.invariant c.in_ok-push_lists_in.ensures

pub returns : goal.returns
returns c = c.loop-land.invariant ∙ ap (λ n. flat_map (lists_in_land c.args.returns.now) (range_with_len 0 n)) (omega (arith, c.lands-land-end.ensures.number))
