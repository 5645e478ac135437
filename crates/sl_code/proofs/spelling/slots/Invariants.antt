use Rattle.std.proofs.Common.{◌≡◌, ◌++◌, map, take}
use Rattle.sl_base_terms.specs.Shapes.{shape_number}
use Rattle.sl_code.proofs.spelling.slots.Given as goal

abbrev pub invariant-loop-shape : goal.invariant-loop-shape
invariant-loop-shape l = l.bytes.items ≡ l.initial.bytes.items ++ map shape_number (take l.shape-index l.slots)
