use Rattle.std.proofs.Common.{rules}
use Rattle.sl_code.proofs.Failing.{more_one}
use Rattle.sl_code.proofs.reader.Reader.new_table.Goals as goal

pub returns-in_err-entries-clause-err : goal.returns-in_err-entries-clause-err
returns-in_err-entries-clause-err c = search (rules, more_one)
