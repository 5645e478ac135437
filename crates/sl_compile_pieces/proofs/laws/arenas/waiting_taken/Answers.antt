use Rattle.sl_compile_pieces.proofs.arenas.Taken.{waiting_taken}
use Rattle.sl_compile_pieces.proofs.laws.arenas.waiting_taken.Goals as goal

pub returns : goal.returns
returns c = waiting_taken
