use Rattle.std.proofs.Common.{take}
use Rattle.std.specs.List.{AllZip}
use Rattle.sl_terminal_commands.specs.inner.Comparing.{AreGood, IsVariedOf, pairs}
use Rattle.sl_terminal_commands.proofs.varied.all_varied.Given as goal

abbrev pub invariant-loop-named : goal.invariant-loop-named
invariant-loop-named l = AreGood (take l.named-index l.books) → AllZip IsVariedOf (pairs (take l.named-index l.books) l.methods) l.all.items
