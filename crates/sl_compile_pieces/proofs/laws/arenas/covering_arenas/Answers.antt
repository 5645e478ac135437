use Rattle.sl_compile_pieces.proofs.arenas.MethodArenas.{covering_arenas}
use Rattle.sl_compile_pieces.proofs.laws.arenas.covering_arenas.Goals as goal

pub returns : goal.returns
returns c = covering_arenas
