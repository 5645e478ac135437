use Rattle.std.proofs.Common.{◌≡◌, take}
use Rattle.sl_table.proofs.tables.places.Given as goal

abbrev pub invariant-loop-win : goal.invariant-loop-win
invariant-loop-win l = l.placed.items ≡ take l.win l.memory.placed
