use Rattle.std.proofs.Common.{None, arith}
use Rattle.std.proofs.lemmas.Str.Pattern.{strip_prefix_char}
use Rattle.sl_terminal_commands.proofs.Words.{path_bytes}
use Rattle.sl_terminal_commands.proofs.reports.book_bytes.Goals as goal

pub returns-in-None : goal.returns-in-None
returns-in-None c = path_bytes c.args.word.now c.args.read.now (strip_prefix_char 64 c.args.word.now None c.in-None.ensures.cases (omega arith))
