use Rattle.sl_compile_pieces.proofs.arenas.MethodArenas.{divisor_arenas}
use Rattle.sl_compile_pieces.proofs.laws.arenas.divisor_arenas.Goals as goal

pub returns : goal.returns
returns c = divisor_arenas
