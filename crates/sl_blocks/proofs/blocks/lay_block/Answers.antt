use Rattle.std.proofs.Common.{vec_len}
use Rattle.sl_compile_layout.specs.inner.Layout.{tree_of}
use Rattle.sl_blocks.specs.inner.Given.{given_of}
use Rattle.sl_blocks.proofs.Laid.{laid_as, last_as}
use Rattle.sl_blocks.proofs.blocks.lay_block.Goals as goal

pub returns-clause-ok : goal.returns-clause-ok
returns-clause-ok c =
    let b = c.args.block.now in
    laid_as c.lay_block_with.result _ _ (vec_len c.args.code.now) c.args.code.now.items c.lay_block_with.new.code.items
    (last_as b (tree_of (given_of b) c.drawn_batch.result.now) c.drawn_batch.ensures)
    c.lay_block_with.ensures.ok
