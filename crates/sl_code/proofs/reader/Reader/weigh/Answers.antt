use Rattle.std.proofs.Common.{rules}
use Rattle.sl_code.proofs.Failing.{later_two_more, more_two, scope_passes}
use Rattle.sl_code.proofs.reader.Reader.weigh.Goals as goal

pub returns-in_err-stage-clause-err : goal.returns-in_err-stage-clause-err
returns-in_err-stage-clause-err c = search (rules, more_two)

pub returns-in_err-rounding-clause-err : goal.returns-in_err-rounding-clause-err
returns-in_err-rounding-clause-err c = search (rules, later_two_more, scope_passes)
