use Rattle.std.proofs.Common.{rules}
use Rattle.sl_code.proofs.Failing.{more_one}
use Rattle.sl_code.proofs.reader.Reader.priority.Goals as goal

pub returns-in_err-method-clause-err : goal.returns-in_err-method-clause-err
returns-in_err-method-clause-err c = search (rules, more_one)
