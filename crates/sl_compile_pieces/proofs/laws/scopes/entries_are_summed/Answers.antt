use Rattle.sl_compile_pieces.proofs.scopes.Sums.{entries_are_summed}
use Rattle.sl_compile_pieces.proofs.laws.scopes.entries_are_summed.Goals as goal

pub returns : goal.returns
returns c = entries_are_summed
