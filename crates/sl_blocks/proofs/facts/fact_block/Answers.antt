use Rattle.std.proofs.Common.{◌+◌, ◌<◌, vec_len, sym, subst, arith}
use Rattle.sl_code_instructions.specs.declared.code.TheConstants.{MAX_INSTRS}
use Rattle.sl_compile_plans.specs.Trees.{Tree, size_of}
use Rattle.sl_compile_pieces.specs.facts.Trees.{fact_tree}
use Rattle.sl_compile_pieces.specs.exprs.Slots.{fact_slots}
use Rattle.sl_blocks.proofs.Laid.{laid_as}
use Rattle.sl_blocks.proofs.MakingPlans.{made, fact_makes}
use Rattle.sl_blocks.proofs.facts.fact_block.Goals as goal

pub lay-requires : goal.lay-requires
lay-requires c =
    let place = c.args.code.now.ok.0 in
    subst (λ (t : Tree). vec_len c.args.code.now + size_of t < MAX_INSTRS) (sym (c.fact_plan.ensures c.args.house)) (omega (arith, c.requires, place))

pub returns-clause-ok : goal.returns-clause-ok
returns-clause-ok c =
    made c.lay.result _ (fact_tree fact_slots c.args.house c.args.fact) _ _ _ (fact_makes c.args.house c.args.fact (omega arith)) c.args.code.now.ok.0
    (laid_as c.lay.result _ _ _ _ _ (c.fact_plan.ensures c.args.house) c.lay.ensures.ok)
