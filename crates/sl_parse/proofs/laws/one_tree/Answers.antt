use Rattle.sl_parse.proofs.OneTree.{one}
use Rattle.sl_parse.proofs.laws.one_tree.Goals as goal

pub returns : goal.returns
returns c = one
