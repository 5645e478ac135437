use Rattle.std.proofs.Common.{count_by, sym, subst, ◌∙◌, arith}
use Rattle.std.proofs.lemmas.List.{take_all}
use Rattle.sl_count_texts.specs.Orders.{entry_key, weight_key}
use Rattle.sl_count_texts.specs.inner.Counts.{CountsOne}
use Rattle.sl_count_texts.proofs.Keys.{entry_alike}
use Rattle.sl_count_texts.proofs.SeatCounts.{counts_fit, one_more}
use Rattle.sl_count_texts.proofs.bounds.count_seats.Goals as goal

pub count_one-requires : goal.count_one-requires
count_one-requires c =
    let few = counts_fit (λ x. entry_key x.stage x.scope x.entry) c.args.steps.now c.loop-step.step-index c.loop-step.counts c.entry_key-key.result c.loop-step-test.true c.loop-step.invariant in
    omega (arith, few)

pub loop-step-preserved : goal.loop-step-preserved
loop-step-preserved c =
    one_more (λ x. entry_key x.stage x.scope x.entry) c.args.steps.now c.loop-step.step-index c.loop-step.counts c.count_one.new.counts c.step-item.result
    c.loop-step-test.true (sym c.step-item.is) (subst (CountsOne c.loop-step.counts c.count_one.new.counts) c.entry_key-key.ensures c.in_ok-count_one.ensures) c.loop-step.invariant

pub returns : goal.returns
returns c = λ w.
    c.loop-step.invariant (weight_key w)
    ∙ (λ i. count_by (λ x. entry_alike w x i) (take_all c.loop-step.step-index c.args.steps.now c.loop-step-test.false i))
