use Rattle.std.proofs.Common.{ap, ◌∙◌}
use Rattle.sl_compile_pieces.specs.exprs.Slots.{passing}
use Rattle.sl_compile.proofs.Stands.{sum_stands}
use Rattle.sl_compile.proofs.nodes.sum.Goals as goal

pub returns-clause-blocks : goal.returns-clause-blocks
returns-clause-blocks c =
    sum_stands c.args.level c.args.over c.args.of.shape c.requires.level c.requires.from (c.passing.ensures ∙ ap (passing c.args.level) c.shape-shape.ensures)
    c.in_ok-sum_block.ensures.ok
