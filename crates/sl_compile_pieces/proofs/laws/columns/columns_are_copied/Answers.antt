use Rattle.sl_compile_pieces.proofs.columns.Writing.{columns_are_copied}
use Rattle.sl_compile_pieces.proofs.laws.columns.columns_are_copied.Goals as goal

pub returns : goal.returns
returns c = columns_are_copied
