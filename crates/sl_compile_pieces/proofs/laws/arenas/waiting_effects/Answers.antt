use Rattle.sl_compile_pieces.proofs.arenas.TableEffects.{waiting_effects}
use Rattle.sl_compile_pieces.proofs.laws.arenas.waiting_effects.Goals as goal

pub returns : goal.returns
returns c = waiting_effects
