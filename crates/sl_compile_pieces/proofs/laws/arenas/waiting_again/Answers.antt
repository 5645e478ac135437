use Rattle.sl_compile_pieces.proofs.arenas.TableEffects.{waiting_again}
use Rattle.sl_compile_pieces.proofs.laws.arenas.waiting_again.Goals as goal

pub returns : goal.returns
returns c = waiting_again
