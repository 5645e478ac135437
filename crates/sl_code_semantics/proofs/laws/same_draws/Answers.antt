-- The law is proved in proofs/drawing/LotDraws.antt.
use Rattle.sl_code_semantics.proofs.drawing.LotDraws.{same_draws}
use Rattle.sl_code_semantics.proofs.laws.same_draws.Goals as goal

pub returns : goal.returns
returns c = same_draws
