use Rattle.std.proofs.Common.{rules, sym}
use Rattle.std.proofs.lemmas.Nat.{le_bytes_2}
use Rattle.sl_code.specs.Operands.{two_bytes}
use Rattle.sl_code.proofs.reader.two.Goals as goal

pub returns : goal.returns
unfolding two_bytes
returns c = sym (le_bytes_2 c.args.bytes _ (search rules) (search rules) c.from_le_bytes.ensures)
