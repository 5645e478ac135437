use Rattle.sl_terminal_words.proofs.Programs.{HasWordsBut}
use Rattle.sl_terminal_words.proofs.command_line.with_words.Given as goal

abbrev pub invariant-loop-name : goal.invariant-loop-name
invariant-loop-name l = HasWordsBut l.fn.command l.names l.name-index l.command
