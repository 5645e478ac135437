use Rattle.std.proofs.Common.{◌≡◌, Some, sym, ap, subst, ◌∙◌}
use Rattle.std.specs.Prelude.{slice_get}
use Rattle.std.proofs.lemmas.Option.{slice_get-get_or}
use Rattle.sl_report_parties.proofs.Steps.{at_end}
use Rattle.sl_report_results.proofs.DrawnLots.{given_more}
use Rattle.sl_report_results.specs.inner.Drawn.{given_by}
use Rattle.sl_report_results.proofs.drawing.given_by.Goals as goal

pub loop-lot-preserved : goal.loop-lot-preserved
loop-lot-preserved c =
    let k = c.loop-lot.lot-index in
    let lot = c.lot-item.result in
    let there : slice_get c.args.returns.now.lots k ≡ Some lot =
    subst (λ ls. slice_get ls k ≡ Some lot) c.lots-lot-items.ensures.lots (slice_get-get_or c.lots-lot-items.result.now k lot c.loop-lot-test.true ∙ ap Some (sym c.lot-item.is)) in
    given_more c.args.name.now c.args.votes c.args.returns.now.lots k lot c.loop-lot.given.items _ there c.loop-lot.invariant c.in_ok-push_given.ensures

pub returns : goal.returns
returns c = at_end (given_by c.args.name.now c.args.votes) c.args.returns.now.lots c.loop-lot.lot-index _ (rw (← c.lots-lot-items.ensures.lots) c.loop-lot-test.false) c.loop-lot.invariant
