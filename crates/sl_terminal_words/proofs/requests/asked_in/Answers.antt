use Rattle.std.proofs.Common.{◌∙◌, ap, option_and_then, sym}
use Rattle.std.proofs.lemmas.Result.{IfOk-weaker}
use Rattle.clap.specs.Words.{found_of, rows_of}
use Rattle.sl_terminal_words.specs.Requests.{asked_by}
use Rattle.sl_terminal_words.proofs.Matched.{entered_is, entered_nothing}
use Rattle.sl_terminal_words.proofs.requests.asked_in.Goals as goal

pub returns-in-Some : goal.returns-in-Some
returns-in-Some c =
    let entered = entered_is c.args.matches.now c.in-Some.command.now (rows_of (found_of c.in-Some.given.now)) c.in-Some.ensures.name c.in-Some.ensures.rows in
    IfOk-weaker c.asked_by.result _ _ (λ r h. h ∙ ap (option_and_then asked_by) (sym entered)) c.asked_by.ensures

pub returns-in-None : goal.returns-in-None
returns-in-None c = ap (option_and_then asked_by) (sym (entered_nothing c.args.matches.now c.in-None.ensures.name))
