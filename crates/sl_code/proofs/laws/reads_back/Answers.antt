use Rattle.sl_code.proofs.OneCode.{reads_one}
use Rattle.sl_code.proofs.laws.reads_back.Goals as goal

pub returns : goal.returns
returns c = reads_one
