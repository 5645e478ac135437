use Rattle.std.proofs.Common.{◌++◌, ap, ◌∙◌}
use Rattle.sl_code_instructions.specs.declared.code.CodeStage.{CodeStage}
use Rattle.sl_code.specs.Spelling.{stage_bytes}
use Rattle.sl_code.proofs.Numbered.{more_written}
use Rattle.sl_code.proofs.spelling.stages.Goals as goal

pub loop-each-preserved : goal.loop-each-preserved
loop-each-preserved c =
    more_written stage_bytes _ c.loop-each.each-index c.each-item.result _ _ _ c.loop-each-test.true c.loop-each.invariant (c.in_ok-stage.ensures ∙ ap (λ (s : CodeStage). c.loop-each.bytes.items ++ stage_bytes s) c.each-item.is)
