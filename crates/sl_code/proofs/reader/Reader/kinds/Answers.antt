use Rattle.std.proofs.Common.{rules}
use Rattle.sl_code.proofs.Failing.{later, later_registers, more_one, more_two, cursors_passes}
use Rattle.sl_code.proofs.reader.Reader.kinds.Goals as goal

pub returns-in_err-positive-clause-err : goal.returns-in_err-positive-clause-err
returns-in_err-positive-clause-err c = search (rules, more_two)

pub returns-in_err-cursors-clause-err : goal.returns-in_err-cursors-clause-err
returns-in_err-cursors-clause-err c = search (rules, later_registers, more_one)

pub returns-in_err-table-clause-err : goal.returns-in_err-table-clause-err
returns-in_err-table-clause-err c = search (rules, later_registers, later, cursors_passes)
