use Rattle.std.proofs.Common.{arith, ap, ◌∙◌}
use Rattle.std.specs.Prelude.{sum}
use Rattle.std.proofs.lemmas.List.{take_all}
use Rattle.std.proofs.lemmas.List.Sums.{sum_by_more}
use Rattle.sl_report_parties.specs.Sums.{capped}
use Rattle.sl_report_results.proofs.columns.sum_of.Goals as goal

pub loop-value-preserved : goal.loop-value-preserved
loop-value-preserved c =
    omega (arith, c.saturating_add-sum.ensures, c.loop-value.invariant, sum_by_more (λ x. x) c.deref-value-items.result.now c.loop-value.value-index 0 c.loop-value-test.true)

pub returns : goal.returns
returns c = c.loop-value.invariant ∙ ap (λ xs. capped (sum xs)) (take_all c.loop-value.value-index c.deref-value-items.result.now (omega (arith, c.loop-value-test.false)) ∙ c.deref-value-items.ensures.value)
