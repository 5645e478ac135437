use Rattle.std.proofs.Common.{◌≡◌, ◌++◌, flat_map, take}
use Rattle.sl_code.specs.Operands.{bytes_of}
use Rattle.sl_code.proofs.spelling.instr.Given as goal

abbrev pub invariant-loop-each : goal.invariant-loop-each
invariant-loop-each l = l.bytes.items ≡ l.initial.bytes.items ++ flat_map bytes_of (take l.each-index l.each-items)
