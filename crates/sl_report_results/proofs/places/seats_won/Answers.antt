use Rattle.std.proofs.Common.{count_by, ◌∙◌}
use Rattle.sl_law_meaning.specs.meaning.Scopes.{place}
use Rattle.sl_report_parties.proofs.Steps.{at_end}
use Rattle.sl_report_results.proofs.OwnPlaces.{seats_counted}
use Rattle.sl_report_results.proofs.Tabled.{is_at}
use Rattle.sl_report_results.specs.inner.Tables.{seat_place}
use Rattle.sl_report_results.proofs.places.seats_won.Goals as goal

pub returns : goal.returns
returns c = λ i of.
    let e = c.args.returns.now in
    at_end (count_by (λ s. is_at (place e i) (seat_place e c.args.votes c.args.stage s))) c.args.steps.now c.loop-step.step-index _ c.loop-step-test.false (c.loop-step.invariant.counted (place e i))
    ∙ seats_counted e c.args.votes c.args.stage c.args.steps.now i of
