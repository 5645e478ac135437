use Rattle.std.proofs.Common.{◌≡◌, ◌++◌, flat_map, length, All}
use Rattle.sl_code.specs.Spelling.{instr_bytes}
use Rattle.sl_code_instructions.specs.Proper.{IsInRange}
use Rattle.sl_code.proofs.reader.Reader.instr_list.Given as goal

abbrev pub invariant-loop-at : goal.invariant-loop-at
invariant-loop-at l =
    (l.initial.self ≡ flat_map instr_bytes l.instrs.items ++ l.self) × (length l.instrs.items ≡ l._at) × All IsInRange l.instrs.items
