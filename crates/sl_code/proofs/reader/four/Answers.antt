use Rattle.std.proofs.Common.{rules, sym}
use Rattle.std.proofs.lemmas.Nat.{le_bytes_4}
use Rattle.sl_code.specs.Operands.{four_bytes}
use Rattle.sl_code.proofs.reader.four.Goals as goal

pub returns : goal.returns
unfolding four_bytes
returns c = sym (le_bytes_4 c.args.bytes _ (search rules) (search rules) c.from_le_bytes.ensures)
