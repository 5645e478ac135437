use Rattle.std.proofs.Common.{List, [], ◌∷◌, vec_len, ap, ◌∙◌}
use Rattle.sl_code_instructions.specs.declared.instr.Instr.{Instr}
use Rattle.sl_compile_layout.specs.declared.plan.Part.TheVariants as part
use Rattle.sl_compile_layout.specs.inner.Layout.{filled, tree_of}
use Rattle.sl_compile_plans.specs.Trees.{Tree, Line, Then}
use Rattle.sl_blocks.specs.inner.Given.{given_of}
use Rattle.sl_blocks.specs.inner.LayoutParts.{all_with}
use Rattle.sl_blocks.proofs.Laid.{laid_as, all_as}
use Rattle.sl_blocks.proofs.scopes.lay_scopes.Goals as goal

pub returns-clause-ok : goal.returns-clause-ok
returns-clause-ok c =
    let b = c.args.block.now in
    let scope = tree_of (given_of b) c.args.scope.now in
    let tree : List Instr → Tree =
    λ given. Then (tree_of given c.each_scope-limits.result) (Then (Line (filled given (part.Given 6) ∷ [])) (tree_of given c.each_scope-scopes.result)) in
    laid_as c.lay.result (tree c.given_of-given.result) (all_with b scope) (vec_len c.args.code.now) c.args.code.now.items c.lay.new.code.items
    (ap tree c.given_of-given.ensures ∙ all_as b scope (tree_of (given_of b) c.each_scope-limits.result) (tree_of (given_of b) c.each_scope-scopes.result)
    (c.each_scope-limits.ensures (given_of b)) (c.each_scope-scopes.ensures (given_of b)))
    c.lay.ensures.ok
