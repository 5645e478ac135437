use Rattle.std.proofs.Common.{sym, ap, map, ◌∙◌}
use Rattle.std.proofs.lemmas.List.{map_more, take_all}
use Rattle.sl_code_instructions.specs.declared.code.CodeStage.{CodeStage}
use Rattle.sl_code_steps.specs.inner.Lots.{stage_lots}
use Rattle.sl_code_steps.proofs.lots.Lots.of.Goals as goal

pub loop-stage-preserved : goal.loop-stage-preserved
loop-stage-preserved c =
    let lots = λ (stage : CodeStage). stage_lots c.args.returns.now stage.name in
    let stages = c.stages-stage-items.ensures.stages in
    let one = c.in_ok-named.ensures ∙ ap (stage_lots c.args.returns.now) c.as_bytes.ensures.bytes ∙ ap lots (rw stages at c.stage-item.is) in
    rw (c.in_ok-append.ensures, c.loop-stage.invariant, one)
    (sym (map_more lots c.args.code.now.stages c.loop-stage.stage-index c.stage-item.result (rw stages at c.loop-stage-test.true)))

pub returns : goal.returns
returns c =
    let past = rw c.stages-stage-items.ensures.stages at c.loop-stage-test.false in
    let before = c.loop-stage.invariant ∙ ap (map (λ (stage : CodeStage). stage_lots c.args.returns.now stage.name)) (take_all c.loop-stage.stage-index c.args.code.now.stages past) in
    rw (c.in_ok-append-2.ensures, before, c.in_ok-named-2.ensures)
