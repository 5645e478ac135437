use Rattle.std.proofs.Common.{◌≡◌, ◌++◌, flat_map, take}
use Rattle.sl_code.specs.Spelling.{stage_bytes}
use Rattle.sl_code.proofs.spelling.stages.Given as goal

abbrev pub invariant-loop-each : goal.invariant-loop-each
invariant-loop-each l = l.bytes.items ≡ l.initial.bytes.items ++ flat_map stage_bytes (take l.each-index l.stages)
