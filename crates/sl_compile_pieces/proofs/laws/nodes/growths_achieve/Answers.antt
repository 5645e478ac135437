use Rattle.sl_compile_pieces.proofs.nodes.Nodes.{growths_achieve}
use Rattle.sl_compile_pieces.proofs.laws.nodes.growths_achieve.Goals as goal

pub returns : goal.returns
returns c = growths_achieve
