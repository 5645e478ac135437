use Rattle.std.proofs.Common.{rules}
use Rattle.sl_code.proofs.Failing.{later}
use Rattle.sl_code.proofs.reader.Reader.set.Goals as goal

pub returns-in_err-value-clause-err : goal.returns-in_err-value-clause-err
returns-in_err-value-clause-err c = search (rules, later)
