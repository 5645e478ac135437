use Rattle.std.proofs.lemmas.Result.{IfOk-weaker}
use Rattle.sl_terminal_words.specs.inner.Rules.{rule_of_word}
use Rattle.sl_terminal_words.proofs.Programs.{one_word}
use Rattle.sl_terminal_words.proofs.command_line.with_word.Goals as goal

pub returns : goal.returns
returns c =
    let arg = c.in_ok-arg_of.field-0 in
    IfOk-weaker c.arg.result _ _ (λ new added. one_word c.args.command new arg (rule_of_word c.args.word.now) added c.in_ok-arg_of.ensures.rule c.in_ok-arg_of.ensures.own) c.arg.ensures
