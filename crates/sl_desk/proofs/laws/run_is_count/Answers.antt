use Rattle.sl_desk.proofs.RunIsCount.{runs_its_code, run_is_count}
use Rattle.sl_desk.proofs.laws.run_is_count.Goals as goal

pub returns-clause-code : goal.returns-clause-code
returns-clause-code c = runs_its_code c.code_files_have_one_verdict.ensures.no_other

pub returns-clause-book : goal.returns-clause-book
returns-clause-book c = run_is_count c.code_files_have_one_verdict.ensures.no_other
