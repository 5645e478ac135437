use Rattle.std.proofs.Common.{vec_len, unwrap_or, ap}
use Rattle.sl_compile_layout.specs.inner.Layout.{tree_of}
use Rattle.sl_blocks.specs.inner.Given.{given_of}
use Rattle.sl_blocks.specs.inner.LayoutParts.{all_with}
use Rattle.sl_blocks.proofs.Laid.{laid_as, growth_as}
use Rattle.sl_blocks.proofs.growths.lay_growth_with.Goals as goal

pub returns-clause-ok : goal.returns-clause-ok
returns-clause-ok c =
    let b = c.args.block.now in
    let given = given_of b in
    laid_as c.lay_house_with.result _ _ (vec_len c.args.code.now) c.args.code.now.items c.lay_house_with.new.code.items
    (ap (all_with b) (growth_as b (unwrap_or b.cap 0) (tree_of given c.fill_outside-fill_entries.result) (tree_of given c.args.rest.now) c.fill_outside-fill_entries.ensures))
    c.lay_house_with.ensures.ok
