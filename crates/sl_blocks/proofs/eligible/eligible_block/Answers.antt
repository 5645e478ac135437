use Rattle.std.proofs.Common.{◌+◌, ◌<◌, [], ◌∷◌, List, vec_len, sym, ap, subst, ◌∙◌, arith}
use Rattle.std.specs.Prelude.{unwrap_or}
use Rattle.sl_law_meaning.specs.declared.book.Cond.TheVariants as condition
use Rattle.sl_code_instructions.specs.declared.code.TheConstants.{MAX_INSTRS}
use Rattle.sl_code_instructions.specs.declared.instr.Instr.{Instr}
use Rattle.sl_code_instructions.specs.declared.instr.Instr.TheVariants.{Zero}
use Rattle.sl_compile_layout.specs.inner.Layout.{tree_of}
use Rattle.sl_compile_plans.specs.Trees.{Tree, Line, Then, size_of}
use Rattle.sl_compile_pieces.specs.facts.Trees.{condition_tree, eligible_tree}
use Rattle.sl_compile_pieces.specs.exprs.Slots.{fact_slots}
use Rattle.sl_blocks.specs.inner.Few.{few_of, given_of, votes_of, per_of}
use Rattle.sl_blocks.proofs.FactPlans.{before, share_tree, eligible_plan}
use Rattle.sl_blocks.proofs.Laid.{laid_as}
use Rattle.sl_blocks.proofs.MakingPlans.{made, eligible_makes}
use Rattle.sl_blocks.proofs.eligible.eligible_block.Goals as goal

-- the plan that is laid out is that of the conditions
pub lay-requires : goal.lay-requires
lay-requires c =
    let few = c.args.few.now in
    let given : List Instr = given_of few in
    let same = eligible_plan few (tree_of given c.before-all.result) (tree_of given c.before-minorities.result) (tree_of given c.before-winners.result) (tree_of given c.before-valid.result)
    (c.before-all.ensures given) (c.before-minorities.ensures given)
    (c.before-winners.ensures given ∙ ap (λ b. before b (condition_tree fact_slots (condition.Winners (unwrap_or few.winners 0))) (tree_of given c.before-minorities.result)) c.is_some.ensures)
    (c.before-valid.ensures given ∙ ap (λ b. before b (share_tree (votes_of few.valid) (per_of few.valid)) (tree_of given c.before-winners.result)) c.is_some-2.ensures) in
    let laid = ap (λ (is : List Instr). Then (Line (Zero 0 ∷ [])) (tree_of is c.before-valid.result)) c.given_of.ensures ∙ same in
    let place = c.args.code.now.ok.0 in
    subst (λ (t : Tree). vec_len c.args.code.now + size_of t < MAX_INSTRS) (sym laid) (omega (arith, c.requires.room, place))

pub returns-clause-ok : goal.returns-clause-ok
returns-clause-ok c =
    let few = c.args.few.now in
    let given : List Instr = given_of few in
    let same = eligible_plan few (tree_of given c.before-all.result) (tree_of given c.before-minorities.result) (tree_of given c.before-winners.result) (tree_of given c.before-valid.result)
    (c.before-all.ensures given) (c.before-minorities.ensures given)
    (c.before-winners.ensures given ∙ ap (λ b. before b (condition_tree fact_slots (condition.Winners (unwrap_or few.winners 0))) (tree_of given c.before-minorities.result)) c.is_some.ensures)
    (c.before-valid.ensures given ∙ ap (λ b. before b (share_tree (votes_of few.valid) (per_of few.valid)) (tree_of given c.before-winners.result)) c.is_some-2.ensures) in
    let laid = ap (λ (is : List Instr). Then (Line (Zero 0 ∷ [])) (tree_of is c.before-valid.result)) c.given_of.ensures ∙ same in
    made c.lay.result _ (eligible_tree fact_slots (few_of few)) _ _ _ (eligible_makes (few_of few) c.requires.small) c.args.code.now.ok.0
    (laid_as c.lay.result (Then (Line (Zero 0 ∷ [])) (tree_of c.given_of.result c.before-valid.result)) _ _ _ _ laid c.lay.ensures.ok)
