use Rattle.std.proofs.Common.{◌∙◌, ap}
use Rattle.std.specs.Prelude.{unwrap_or}
use Rattle.sl_terminal_words.proofs.command_line.request_of.Goals as goal

pub returns-in-Err : goal.returns-in-Err
returns-in-Err c = c.unwrap_or-spoken.ensures ∙ ap (λ o. unwrap_or o c.args.language) c.language_in.ensures
