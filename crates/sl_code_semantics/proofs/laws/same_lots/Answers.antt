-- The law is proved in proofs/drawing/LotProofs.antt.
use Rattle.sl_code_semantics.proofs.drawing.LotProofs.{same_lots}
use Rattle.sl_code_semantics.proofs.laws.same_lots.Goals as goal

pub returns : goal.returns
returns c = same_lots
