use Rattle.sl_desk.proofs.CodeFiles.{CodeLaws, no_other_verdict, one_verdict}
use Rattle.sl_desk.proofs.laws.code_files_have_one_verdict.Goals as goal

laws : goal.After-fault_or_kinds → CodeLaws
laws c = record {
  code_or_fault = c.code_or_fault.ensures;
  one_code = c.one_code.ensures;
  one_fault = c.one_fault.ensures;
  spelling_or_fault = c.spelling_or_fault.ensures;
  fault_or_kinds = c.fault_or_kinds.ensures;
}

pub returns-clause-one : goal.returns-clause-one
returns-clause-one c = one_verdict (laws c)

pub returns-clause-no_other : goal.returns-clause-no_other
returns-clause-no_other c = no_other_verdict (laws c)
