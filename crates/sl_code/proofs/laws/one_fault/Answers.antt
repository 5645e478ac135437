use Rattle.sl_code.proofs.FileFacts.{fault_one}
use Rattle.sl_code.proofs.laws.one_fault.Goals as goal

pub returns : goal.returns
returns c = fault_one
