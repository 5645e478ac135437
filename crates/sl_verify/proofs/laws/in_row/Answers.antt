use Rattle.sl_code_semantics.proofs.kinds.PieceFacts.{comes_in_row, passed_in_row, tests_in_row}
use Rattle.sl_verify.proofs.laws.in_row.Goals as goal

pub returns-clause-comes : goal.returns-clause-comes
returns-clause-comes c = comes_in_row

pub returns-clause-passed : goal.returns-clause-passed
returns-clause-passed c = passed_in_row

pub returns-clause-tests : goal.returns-clause-tests
returns-clause-tests c = tests_in_row
