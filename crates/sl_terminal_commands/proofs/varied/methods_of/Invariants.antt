use Rattle.std.proofs.Common.{map, take, ◌≡◌}
use Rattle.sl_terminal_commands.specs.Comparisons.{methods_written}
use Rattle.sl_terminal_commands.proofs.varied.methods_of.Given as goal

abbrev pub invariant-loop-word : goal.invariant-loop-word
invariant-loop-word l = l.methods.items ≡ methods_written (map (λ word. word.now) (take l.word-index l.words))
