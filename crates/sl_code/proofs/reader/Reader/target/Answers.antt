use Rattle.std.proofs.Common.{rules}
use Rattle.sl_code.proofs.LowFirst.{front_read}
use Rattle.sl_code.proofs.reader.Reader.target.Goals as goal

pub returns-clause-ok : goal.returns-clause-ok
returns-clause-ok c = front_read 4 c.args.self.now c.in-Some.bytes.now _ _ (search rules) (search rules) c.four.ensures
