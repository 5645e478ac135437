use Rattle.sl_compile_pieces.specs.columns.Trees.{sum_tree}
use Rattle.sl_blocks.proofs.Laid.{laid_as}
use Rattle.sl_blocks.proofs.MakingPlans.{made, sum_makes}
use Rattle.sl_blocks.proofs.columns.sum_block.Goals as goal

pub returns-clause-ok : goal.returns-clause-ok
returns-clause-ok c =
    let over = c.args.over in
    let shape = c.args.shape in
    made c.lay.result _ (sum_tree over shape c.args.from c.args.to) _ _ _ (sum_makes over shape c.args.from c.args.to c.requires.can) c.args.code.now.ok.0
    (laid_as c.lay.result _ _ _ _ _ (c.sum_plan.ensures c.args.from c.args.to) c.lay.ensures.ok)
