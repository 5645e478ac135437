use Rattle.sl_blocks.proofs.MakingPlans.{made, copy_makes}
use Rattle.sl_blocks.proofs.columns.copy_block.Goals as goal

pub returns-clause-ok : goal.returns-clause-ok
returns-clause-ok c = made c.lay_cells.result _ _ _ _ _ (copy_makes c.args.shape c.args.from c.args.to) c.args.code.now.ok.0 c.lay_cells.ensures.ok
