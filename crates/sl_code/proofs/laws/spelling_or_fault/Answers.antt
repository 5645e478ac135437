use Rattle.sl_code.proofs.FileFacts.{spelling_none}
use Rattle.sl_code.proofs.laws.spelling_or_fault.Goals as goal

pub returns : goal.returns
returns c = spelling_none
