use Rattle.std.proofs.Common.{◌≤◌, ◌∙◌, add-one, ap, arith, length}
use Rattle.sl_law_meaning.specs.book.Trees.{tree_of}
use Rattle.sl_law_meaning.specs.book.Typing.{type_of}
use Rattle.sl_check.proofs.Walking.{columns_more}
use Rattle.sl_check.proofs.shapes.types_of.Goals as goal

pub loop-i-preserved : goal.loop-i-preserved
loop-i-preserved c =
    let s = c.index-stages-i.result in
    let room : length c.args.stages.now ≤ length c.loop-i.types = omega (arith, c.requires) in
    rw add-one
    (columns_more c.args.stages.now c.loop-i.types c.loop-i.i s c.type_of.result c.loop-i.invariant c.loop-i-test.true room c.index-stages-i.is
    (c.type_of.ensures ∙ ap (λ cs. type_of cs (tree_of s.expr)) c.of-earlier.ensures))
