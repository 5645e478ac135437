use Rattle.sl_blocks.proofs.MakingPlans.{made, placing_makes}
use Rattle.sl_blocks.proofs.seating.placing_block.Goals as goal

pub returns-clause-ok : goal.returns-clause-ok
returns-clause-ok c = made c.lay.result _ _ _ _ _ placing_makes c.args.code.now.ok.0 c.lay.ensures.ok
