use Rattle.std.proofs.Common.{◌≡◌, ◌++◌, flat_map, length, All}
use Rattle.sl_code.specs.Spelling.{stage_bytes}
use Rattle.sl_code_instructions.specs.Proper.{IsStage}
use Rattle.sl_code.proofs.reader.Reader.stage_list.Given as goal

abbrev pub invariant-loop-at : goal.invariant-loop-at
invariant-loop-at l =
    (l.initial.self ≡ flat_map stage_bytes l.stages.items ++ l.self) × (length l.stages.items ≡ l._at) × All IsStage l.stages.items
