use Rattle.std.proofs.Common.{rules, sym}
use Rattle.std.proofs.lemmas.Nat.{le_bytes_8}
use Rattle.sl_code.specs.Operands.{eight_bytes}
use Rattle.sl_code.proofs.reader.eight.Goals as goal

pub returns : goal.returns
unfolding eight_bytes
returns c = sym (le_bytes_8 c.args.bytes _ (search rules) (search rules) c.from_le_bytes.ensures)
