-- The shapes so far are appended.
use Rattle.std.proofs.Common.{◌≡◌, ◌++◌, map, take}
use Rattle.sl_compile.proofs.slots.add_columns.Given as goal

abbrev pub invariant-loop-column : goal.invariant-loop-column
invariant-loop-column l = l.slots.items ≡ l.initial.slots.items ++ map (λ t. t.shape) (take l.column-index l.types)
