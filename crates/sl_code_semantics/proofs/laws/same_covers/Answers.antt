-- The law is proved in proofs/drawing/LotDraws.antt.
use Rattle.sl_code_semantics.proofs.drawing.LotDraws.{same_covers}
use Rattle.sl_code_semantics.proofs.laws.same_covers.Goals as goal

pub returns : goal.returns
returns c = same_covers
