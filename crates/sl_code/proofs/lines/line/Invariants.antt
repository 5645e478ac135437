use Rattle.std.proofs.Common.{◌≡◌, ◌++◌, flat_map, take}
use Rattle.sl_code.specs.Listing.{operand_word}
use Rattle.sl_code.proofs.lines.line.Given as goal

abbrev pub invariant-loop-operand : goal.invariant-loop-operand
invariant-loop-operand l =
    l.text.items ≡ l.initial.text.items ++ flat_map operand_word (take l.operand-index l.operand-items)
