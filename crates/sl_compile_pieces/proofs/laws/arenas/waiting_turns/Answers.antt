use Rattle.sl_compile_pieces.proofs.arenas.Turns.{waiting_turns}
use Rattle.sl_compile_pieces.proofs.laws.arenas.waiting_turns.Goals as goal

pub returns : goal.returns
returns c = waiting_turns
