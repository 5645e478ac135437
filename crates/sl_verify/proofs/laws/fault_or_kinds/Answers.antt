use Rattle.sl_code_semantics.proofs.kinds.Kinded.{kinds_have_no_fault, no_fault_has_kinds}
use Rattle.sl_verify.proofs.laws.fault_or_kinds.Goals as goal

pub returns : goal.returns
returns c = λ code. (kinds_have_no_fault code, no_fault_has_kinds code)
