use Rattle.std.proofs.Common.{◌∙◌}
use Rattle.sl_terminal_count.proofs.Commands.{five_refused, four_refused}
use Rattle.sl_terminal_count.proofs.words.count_of.Goals as goal

pub returns-in_default-as_str : goal.returns-in_default-as_str
returns-in_default-as_str c =
    four_refused c.args.words.now c.command-item.result c.in-len4.len_at_least c.in-len4.len_below c.command-item.is
    (λ e. c.in_default-as_str.not-count (c.as_str.ensures.value ∙ e)) (λ e. c.in_default-as_str.not-steps (c.as_str.ensures.value ∙ e))

pub returns-in_default-as_str-2 : goal.returns-in_default-as_str-2
returns-in_default-as_str-2 c =
    five_refused c.args.words.now c.command-item-then-words-lt6.result c.in-len5.len_at_least c.in-len5.len_below c.command-item-then-words-lt6.is
    (λ e. c.in_default-as_str-2.not-stage (c.as_str-in-len5.ensures.value ∙ e))
