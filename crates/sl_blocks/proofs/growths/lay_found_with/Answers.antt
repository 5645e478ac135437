use Rattle.std.proofs.Common.{vec_len, unwrap_or, ap}
use Rattle.sl_compile_layout.specs.inner.Layout.{tree_of}
use Rattle.sl_blocks.specs.inner.Given.{given_of}
use Rattle.sl_blocks.specs.inner.LayoutParts.{all_with}
use Rattle.sl_blocks.proofs.Laid.{laid_as, found_as}
use Rattle.sl_blocks.proofs.growths.lay_found_with.Goals as goal

pub returns-clause-ok : goal.returns-clause-ok
returns-clause-ok c =
    let b = c.args.block.now in
    let given = given_of b in
    laid_as c.lay_sums_with.result _ _ (vec_len c.args.code.now) c.args.code.now.items c.lay_sums_with.new.code.items
    (ap (all_with b) (found_as b (unwrap_or b.cap 0) (tree_of given c.some_votes.result.now) (tree_of given c.args.searched.now) (tree_of given c.args.rest.now) (c.some_votes.ensures b)))
    c.lay_sums_with.ensures.ok
