use Rattle.sl_code_semantics.proofs.kinds.PieceFacts.{nothing_asked}
use Rattle.sl_verify.proofs.laws.nothing_asked.Goals as goal

pub returns : goal.returns
returns c = nothing_asked
