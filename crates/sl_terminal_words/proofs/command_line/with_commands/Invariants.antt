use Rattle.sl_terminal_words.specs.Commands.{all_commands}
use Rattle.sl_terminal_words.proofs.Programs.{HasCommandsBut}
use Rattle.sl_terminal_words.proofs.command_line.with_commands.Given as goal

abbrev pub invariant-loop-command : goal.invariant-loop-command
invariant-loop-command l = HasCommandsBut l.fn.program all_commands l.command-index l.program
