use Rattle.sl_compile_pieces.proofs.closing.Closings.{closings_achieve}
use Rattle.sl_compile_pieces.proofs.laws.closing.closings_achieve.Goals as goal

pub returns : goal.returns
returns c = closings_achieve
