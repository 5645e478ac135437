use Rattle.std.proofs.Common.{◌≡◌, ◌<◌, get_or, arith, ap, ◌∙◌}
use Rattle.sl_law_meaning.specs.returns.Election.{lands_of}
use Rattle.sl_law_meaning.specs.returns.Facts.{list_cell}
use Rattle.sl_report_parties.proofs.Steps.{sum_range_more}
use Rattle.sl_report_results.proofs.columns.party_sum.Goals as goal

pub loop-land-preserved : goal.loop-land-preserved
loop-land-preserved c =
    let e = c.args.returns.now in
    let cells = c.args.column.now.cells.items in
    let land = c.loop-land.land in
    let within : land < lands_of e = omega (arith, c.loop-land-test.true, c.lands-land-end.ensures.number) in
    let here : c.number_at.result ≡ list_cell e cells land c.args.party = c.number_at.ensures ∙ ap (λ n. get_or cells n 0) (c.place_of.ensures within c.requires) in
    omega (arith, here, c.saturating_add-sum.ensures, c.loop-land.invariant, sum_range_more (λ land. list_cell e cells land c.args.party) land)
