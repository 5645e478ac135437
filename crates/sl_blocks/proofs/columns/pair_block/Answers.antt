use Rattle.std.proofs.Common.{[], ◌∷◌, ap}
use Rattle.sl_code_instructions.specs.declared.instr.Instr.{Instr}
use Rattle.sl_code_instructions.specs.declared.instr.Instr.TheVariants.{Get, Store}
use Rattle.sl_compile_plans.specs.Trees.{Line}
use Rattle.sl_compile_pieces.specs.columns.Trees.{cells_plan, pair_tree}
use Rattle.sl_compile_pieces.specs.declared.registers.TheConstants as reg
use Rattle.sl_blocks.proofs.Laid.{laid_as}
use Rattle.sl_blocks.proofs.MakingPlans.{made, pair_makes}
use Rattle.sl_blocks.proofs.columns.pair_block.Goals as goal

pub returns-clause-ok : goal.returns-clause-ok
returns-clause-ok c =
    let left = c.args.left in
    let right = c.args.right in
    let to = c.args.to in
    made c.lay_cells.result _ (pair_tree c.args.pairing c.args.shape left right to) _ _ _ (pair_makes c.args.pairing c.args.shape left right to) c.args.code.now.ok.0
    (laid_as c.lay_cells.result _ _ _ _ _
    (ap (λ (i : Instr). cells_plan c.args.shape (Line (Get reg.CELL left ∷ (Get reg.OTHER right ∷ (i ∷ (Store to reg.CELL ∷ [])))))) c.pair_instr.ensures) c.lay_cells.ensures.ok)
