use Rattle.sl_compile.proofs.Stands.{pair_stands}
use Rattle.sl_compile.proofs.nodes.pair.Goals as goal

pub returns-clause-blocks : goal.returns-clause-blocks
returns-clause-blocks c =
    pair_stands c.args.level c.args.pairing c.args.of.shape c.requires.level c.requires.left c.requires.right c.passing.ensures c.in_ok-pair_block.ensures.ok
