use Rattle.std.proofs.Common.{map, string_bytes}
use Rattle.std.proofs.lemmas.Result.{IfOk-weaker}
use Rattle.std.specs.Prelude.{option_and_then, slice_get}
use Rattle.sl_terminal_words.specs.Commands.{command_named}
use Rattle.sl_terminal_words.proofs.Programs.{bare_program, with_every_command, with_the_command}
use Rattle.sl_terminal_words.proofs.command_line.program.Goals as goal

pub returns-in-Some : goal.returns-in-Some
returns-in-Some c =
    let first = option_and_then command_named (slice_get (map string_bytes c.args.words.now) 1) in
    let program = c.subcommand_required-program.result in
    let start = bare_program c.in_ok-program.program c.version.result program _ c.in_ok-program.ensures.shape c.version.ensures c.subcommand_required-program.ensures in
    IfOk-weaker c.with_command.result _ _ (λ new added. with_the_command first program new c.in-Some.form start c.in-Some.ensures added) c.with_command.ensures

pub returns-in-None : goal.returns-in-None
returns-in-None c =
    let first = option_and_then command_named (slice_get (map string_bytes c.args.words.now) 1) in
    let program = c.subcommand_required-program.result in
    let start = bare_program c.in_ok-program.program c.version.result program _ c.in_ok-program.ensures.shape c.version.ensures c.subcommand_required-program.ensures in
    IfOk-weaker c.with_commands.result _ _ (λ new added. with_every_command first program new start c.in-None.ensures added) c.with_commands.ensures
