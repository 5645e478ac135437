use Rattle.sl_compile_pieces.proofs.arenas.MethodArenas.{hamilton_arenas}
use Rattle.sl_compile_pieces.proofs.laws.arenas.hamilton_arenas.Goals as goal

pub returns : goal.returns
returns c = hamilton_arenas
