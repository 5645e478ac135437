use Rattle.std.proofs.Common.{rules}
use Rattle.sl_code.proofs.Failing.{later}
use Rattle.sl_code.proofs.reader.Reader.branch.Goals as goal

pub returns-in_err-target-clause-err : goal.returns-in_err-target-clause-err
returns-in_err-target-clause-err c = search (rules, later)
