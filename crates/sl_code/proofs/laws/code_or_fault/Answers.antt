use Rattle.sl_code.proofs.CodeOrFault.{code_or_fault}
use Rattle.sl_code.proofs.laws.code_or_fault.Goals as goal

pub returns : goal.returns
returns c = code_or_fault
