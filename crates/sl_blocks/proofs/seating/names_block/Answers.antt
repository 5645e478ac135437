use Rattle.sl_blocks.proofs.MakingPlans.{made, names_make}
use Rattle.sl_blocks.proofs.seating.names_block.Goals as goal

pub returns-clause-ok : goal.returns-clause-ok
returns-clause-ok c = made c.lay.result _ _ _ _ _ names_make c.args.code.now.ok.0 c.lay.ensures.ok
