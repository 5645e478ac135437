use Rattle.std.proofs.Common.{rules}
use Rattle.sl_code.proofs.Failing.{later_two, more_two}
use Rattle.sl_code.proofs.reader.Reader.less.Goals as goal

pub returns-in_err-left-clause-err : goal.returns-in_err-left-clause-err
returns-in_err-left-clause-err c = search (rules, more_two)

pub returns-in_err-target-clause-err : goal.returns-in_err-target-clause-err
returns-in_err-target-clause-err c = search (rules, later_two)
