use Rattle.std.proofs.Common.{length, map, sym, subst}
use Rattle.sl_code_semantics.specs.Fits.{FitsStep}
use Rattle.sl_count_texts.specs.Steps.{step_line}
use Rattle.sl_count_texts.proofs.LineLoops.{lines_more}
use Rattle.sl_count_texts.proofs.Lists.{within_map, in_map}
use Rattle.sl_count_texts.proofs.steps_form.step_lines.Goals as goal

pub step_line-requires-clause-fits : goal.step_line-requires-clause-fits
step_line-requires-clause-fits c =
    let steps = c.args.steps.now in
    let i = c.loop-step.step-index in
    let x = c.step-item.result in
    subst (FitsStep (length c.args.code.now.stages) c.args.returns.now) (in_map (λ s. s.now) steps i x c.loop-step-test.true (sym c.step-item.is))
    (c.requires.fits i x.now (within_map (λ s. s.now) steps i x c.loop-step-test.true (sym c.step-item.is)))

pub loop-step-preserved : goal.loop-step-preserved
loop-step-preserved c =
    let steps = c.args.steps.now in
    let i = c.loop-step.step-index in
    let x = c.step-item.result in
    lines_more (step_line (map (λ s. s.name) c.args.code.now.stages) c.args.returns.now) c.args.text.now (map (λ s. s.now) steps) i x.now c.loop-step.text _
    (within_map (λ s. s.now) steps i x c.loop-step-test.true (sym c.step-item.is)) (in_map (λ s. s.now) steps i x c.loop-step-test.true (sym c.step-item.is))
    c.loop-step.invariant c.in_ok-step_line.ensures
