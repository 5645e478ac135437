use Rattle.std.proofs.Common.{rules}
use Rattle.sl_code.proofs.Failing.{more_two}
use Rattle.sl_code.proofs.reader.Reader.scoped.Goals as goal

pub returns-in_err-stage-clause-err : goal.returns-in_err-stage-clause-err
returns-in_err-stage-clause-err c = search (rules, more_two)
