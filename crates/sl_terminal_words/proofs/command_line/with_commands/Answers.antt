use Rattle.std.proofs.Common.{arith}
use Rattle.sl_terminal_words.specs.Commands.{all_commands}
use Rattle.sl_terminal_words.specs.declared.help.Name.TheVariants.{Count}
use Rattle.sl_terminal_words.proofs.Programs.{every_command, one_command_less}
use Rattle.sl_terminal_words.proofs.command_line.with_commands.Goals as goal

pub loop-command-preserved : goal.loop-command-preserved
loop-command-preserved c = one_command_less c.args.program c.loop-command.program c.in_ok-program.program all_commands c.loop-command.command-index Count c.form.result.now
    c.loop-command.invariant (omega arith) c.form.ensures c.in_ok-program.ensures

pub returns : goal.returns
returns c = every_command c.args.program c.loop-command.program all_commands c.loop-command.command-index (omega arith) c.loop-command.invariant
