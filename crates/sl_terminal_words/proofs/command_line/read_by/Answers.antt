use Rattle.std.proofs.Common.{map, string_bytes}
use Rattle.std.proofs.lemmas.Result.{IfOk-weaker}
use Rattle.clap.specs.Words.{app_of}
use Rattle.sl_terminal_words.proofs.Told.{answers_by_error, answers_by_matches}
use Rattle.sl_terminal_words.proofs.command_line.read_by.Goals as goal

pub returns-in-Ok : goal.returns-in-Ok
returns-in-Ok c = IfOk-weaker c.asked_or_refused.result _ _ (answers_by_matches c.args.language (app_of c.args.program.now) (map string_bytes c.args.words.now) c.in-Ok.matches
    c.requires c.in-Ok.ensures.ok.2 c.in-Ok.ensures.kinds) c.asked_or_refused.ensures

pub returns-in_ok-answer_to-in-Err : goal.returns-in_ok-answer_to-in-Err
returns-in_ok-answer_to-in-Err c = answers_by_error c.args.language (app_of c.args.program.now) (map string_bytes c.args.words.now) c.in-Err.error
    c.requires c.in-Err.ensures.kinds c.in_ok-answer_to-in-Err.field-0 c.in_ok-answer_to-in-Err.ensures
