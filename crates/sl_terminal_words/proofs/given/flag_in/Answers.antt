use Rattle.std.proofs.Common.{◌∙◌}
use Rattle.clap.specs.Words.{found_of}
use Rattle.sl_terminal_words.proofs.Matched.{flag_read}
use Rattle.sl_terminal_words.proofs.given.flag_in.Goals as goal

pub returns : goal.returns
returns c = c.unwrap_or.ensures ∙ flag_read _ (found_of c.args.given.now) c.args.name.now c.get_one.result c.get_one.ensures.none c.get_one.ensures.value
