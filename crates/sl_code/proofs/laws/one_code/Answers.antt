use Rattle.sl_code.proofs.OneCode.{code_one}
use Rattle.sl_code.proofs.laws.one_code.Goals as goal

pub returns : goal.returns
returns c = code_one
