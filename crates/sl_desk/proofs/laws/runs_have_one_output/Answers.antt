use Rattle.sl_desk.proofs.RunIsCount.{one_output_of_runs, one_run_of_bytes}
use Rattle.sl_desk.proofs.laws.runs_have_one_output.Goals as goal

pub returns-clause-one : goal.returns-clause-one
returns-clause-one c =
    one_run_of_bytes c.code_files_have_one_verdict.ensures.one c.code_files_have_one_verdict.ensures.no_other c.never_stuck.ensures

pub returns-clause-no_other : goal.returns-clause-no_other
returns-clause-no_other c = one_output_of_runs c.code_files_have_one_verdict.ensures.no_other
