use Rattle.sl_compile_pieces.proofs.columns.Sums.{sums_are_taken}
use Rattle.sl_compile_pieces.proofs.laws.columns.sums_are_taken.Goals as goal

pub returns : goal.returns
returns c = sums_are_taken
