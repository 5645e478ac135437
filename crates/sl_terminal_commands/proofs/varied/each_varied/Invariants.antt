use Rattle.std.proofs.Common.{take}
use Rattle.std.specs.List.{AllZip}
use Rattle.sl_terminal_commands.specs.inner.Comparing.{IsVaried}
use Rattle.sl_terminal_commands.proofs.varied.each_varied.Given as goal

abbrev pub invariant-loop-method : goal.invariant-loop-method
invariant-loop-method l = AllZip (IsVaried l.named l.book) (take l.method-index l.methods) l.found.items
