use Rattle.std.proofs.Common.{◌≡◌, map, take}
use Rattle.sl_count_calls.specs.inner.Held.{held_column, plain}
use Rattle.sl_count_calls.proofs.columns.columns_of.Given as goal

abbrev pub invariant-loop-stage : goal.invariant-loop-stage
invariant-loop-stage l = map plain l.columns.items ≡ map (λ s. held_column l.code l.memory s.slot) (take l.stage-index l.code.stages)
