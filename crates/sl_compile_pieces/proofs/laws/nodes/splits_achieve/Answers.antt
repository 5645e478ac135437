use Rattle.sl_compile_pieces.proofs.nodes.Nodes.{splits_achieve}
use Rattle.sl_compile_pieces.proofs.laws.nodes.splits_achieve.Goals as goal

pub returns : goal.returns
returns c = splits_achieve
