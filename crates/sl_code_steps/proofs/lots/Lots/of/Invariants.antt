-- The lots of the stages before the place.
use Rattle.std.proofs.Common.{◌≡◌, map, take}
use Rattle.sl_code_steps.specs.inner.Lots.{stage_lots}
use Rattle.sl_code_steps.proofs.lots.Lots.of.Given as goal

abbrev pub invariant-loop-stage : goal.invariant-loop-stage
invariant-loop-stage l = l.stages.items ≡ map (λ stage. stage_lots l.returns stage.name) (take l.stage-index l.code.stages)
