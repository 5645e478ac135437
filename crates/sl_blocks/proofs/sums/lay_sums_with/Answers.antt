use Rattle.std.proofs.Common.{vec_len, ap}
use Rattle.sl_compile_layout.specs.inner.Layout.{tree_of}
use Rattle.sl_blocks.specs.inner.Given.{given_of}
use Rattle.sl_blocks.specs.inner.LayoutParts.{all_with}
use Rattle.sl_blocks.proofs.Laid.{laid_as, sums_as}
use Rattle.sl_blocks.proofs.sums.lay_sums_with.Goals as goal

pub returns-clause-ok : goal.returns-clause-ok
returns-clause-ok c =
    let b = c.args.block.now in
    let given = given_of b in
    laid_as c.lay_scopes.result _ _ (vec_len c.args.code.now) c.args.code.now.items c.lay_scopes.new.code.items
    (ap (all_with b) (sums_as b (tree_of given c.sum_entries-sum_entries.result) (tree_of given c.args.rest.now) c.sum_entries-sum_entries.ensures))
    c.lay_scopes.ensures.ok
