use Rattle.sl_compile_pieces.proofs.arenas.Lots.{waiting_covered}
use Rattle.sl_compile_pieces.proofs.laws.arenas.waiting_covered.Goals as goal

pub returns : goal.returns
returns c = waiting_covered
