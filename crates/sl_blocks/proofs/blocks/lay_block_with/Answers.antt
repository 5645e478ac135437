use Rattle.std.proofs.Common.{vec_len}
use Rattle.sl_compile_layout.specs.inner.Layout.{tree_of}
use Rattle.sl_blocks.specs.inner.Given.{given_of}
use Rattle.sl_blocks.proofs.Laid.{laid_as, rest_as, block_as_split, block_as_growth}
use Rattle.sl_blocks.proofs.blocks.lay_block_with.Goals as goal

pub returns-in-None-clause-ok : goal.returns-in-None-clause-ok
returns-in-None-clause-ok c =
    let b = c.args.block.now in
    let given = given_of b in
    let last = tree_of given c.args.last_batch.now in
    laid_as c.lay_split_with.result _ _ (vec_len c.args.code.now) c.args.code.now.items c.lay_split_with.new.code.items
    (block_as_split b last _ c.in-None.is
    (rest_as b (tree_of given c.count_left.result.now) (tree_of given c.whole_batches.result.now) last (tree_of given c.refuse.result.now)
    (c.count_left.ensures given) c.whole_batches.ensures c.refuse.ensures))
    c.lay_split_with.ensures.ok

pub returns-in-Some-clause-ok : goal.returns-in-Some-clause-ok
returns-in-Some-clause-ok c =
    let b = c.args.block.now in
    let given = given_of b in
    let last = tree_of given c.args.last_batch.now in
    laid_as c.lay_growth_with.result _ _ (vec_len c.args.code.now) c.args.code.now.items c.lay_growth_with.new.code.items
    (block_as_growth b c.in-Some.field-0 last _ c.in-Some.is
    (rest_as b (tree_of given c.count_left.result.now) (tree_of given c.whole_batches.result.now) last (tree_of given c.refuse.result.now)
    (c.count_left.ensures given) c.whole_batches.ensures c.refuse.ensures))
    c.lay_growth_with.ensures.ok
