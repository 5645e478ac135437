use Rattle.sl_compile_pieces.proofs.columns.Writing.{pairs_are_taken}
use Rattle.sl_compile_pieces.proofs.laws.columns.pairs_are_taken.Goals as goal

pub returns : goal.returns
returns c = pairs_are_taken
