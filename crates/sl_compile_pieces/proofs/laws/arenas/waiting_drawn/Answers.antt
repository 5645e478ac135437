use Rattle.sl_compile_pieces.proofs.arenas.Lots.{waiting_drawn}
use Rattle.sl_compile_pieces.proofs.laws.arenas.waiting_drawn.Goals as goal

pub returns : goal.returns
returns c = waiting_drawn
