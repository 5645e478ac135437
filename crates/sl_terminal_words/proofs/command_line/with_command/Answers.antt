use Rattle.std.proofs.lemmas.Result.{IfOk-weaker}
use Rattle.sl_terminal_words.proofs.Programs.{one_command}
use Rattle.sl_terminal_words.proofs.command_line.with_command.Goals as goal

pub returns : goal.returns
returns c =
    let command = c.in_ok-command.field-0 in
    IfOk-weaker c.subcommand.result _ _ (λ new added. one_command c.args.program command new c.args.form.now added c.in_ok-command.ensures) c.subcommand.ensures
