use Rattle.std.proofs.Common.{arith, ◌∙◌, sum_by}
use Rattle.std.specs.Prelude.{slice_index}
use Rattle.sl_report_parties.proofs.Steps.{sum_range_more, at_last}
use Rattle.sl_report_parties.specs.Sums.{capped}
use Rattle.sl_law_meaning.specs.returns.Election.{lands_of}
use Rattle.sl_report_parties.proofs.totals.all_people.Goals as goal

pub loop-land-preserved : goal.loop-land-preserved
loop-land-preserved c =
    omega (arith, c.saturating_add-people.ensures, c.from.ensures ∙ c.population.ensures, c.loop-land.invariant, sum_range_more (slice_index c.args.returns.now.populations) c.loop-land.land)

pub returns : goal.returns
returns c = at_last (λ lands. capped (sum_by (slice_index c.args.returns.now.populations) lands)) c.loop-land.land (lands_of c.args.returns.now) _ (omega (arith, c.lands-land-end.ensures.number)) c.loop-land.invariant
