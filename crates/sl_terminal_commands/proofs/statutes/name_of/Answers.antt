use Rattle.std.proofs.Common.{None, arith}
use Rattle.std.proofs.lemmas.Str.Pattern.{strip_prefix_char}
use Rattle.sl_terminal_commands.proofs.statutes.name_of.Goals as goal

pub returns-in-None : goal.returns-in-None
returns-in-None c name is = absurd (strip_prefix_char 64 c.args.word.now None c.in-None.ensures.cases (omega arith) name is)
