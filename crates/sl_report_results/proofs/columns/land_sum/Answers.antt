use Rattle.std.proofs.Common.{◌≡◌, ◌<◌, get_or, arith, ap, ◌∙◌}
use Rattle.sl_law_meaning.specs.returns.Election.{parties_of}
use Rattle.sl_law_meaning.specs.returns.Facts.{list_cell}
use Rattle.sl_report_parties.proofs.Steps.{sum_range_more}
use Rattle.sl_report_results.proofs.columns.land_sum.Goals as goal

pub loop-party-preserved : goal.loop-party-preserved
loop-party-preserved c =
    let e = c.args.returns.now in
    let cells = c.args.column.now.cells.items in
    let party = c.loop-party.party in
    let within : party < parties_of e = omega (arith, c.loop-party-test.true, c.parties-party-end.ensures.number) in
    let here : c.number_at.result ≡ list_cell e cells c.args.land party = c.number_at.ensures ∙ ap (λ n. get_or cells n 0) (c.place_of.ensures c.requires within) in
    omega (arith, here, c.saturating_add-sum.ensures, c.loop-party.invariant, sum_range_more (λ party. list_cell e cells c.args.land party) party)
