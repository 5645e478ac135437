use Rattle.std.proofs.Common.{ℕ, [], ◌∷◌, subst}
use Rattle.sl_compile_pieces.specs.columns.Trees.{copy_tree}
use Rattle.sl_blocks.specs.PlanBlocks.{AreBlocks, HasCopy}
use Rattle.sl_compile.proofs.nodes.copy.Goals as goal

pub returns-clause-blocks : goal.returns-clause-blocks
returns-clause-blocks c =
    subst (λ (to : ℕ). AreBlocks (HasCopy c.args.of.shape c.args.from to) (copy_tree c.args.of.shape c.args.from to ∷ []) c.args.code.now.items c.copy_block.new.code.items)
    c.passing.ensures c.in_ok-copy_block.ensures.ok
