use Rattle.sl_terminal_commands.specs.inner.Comparing.{HasColumns}
use Rattle.sl_terminal_commands.proofs.comparing.columns_of.Given as goal

-- those before have their columns
abbrev pub invariant-loop-named : goal.invariant-loop-named
invariant-loop-named l = HasColumns l.yielded l.columns.items
