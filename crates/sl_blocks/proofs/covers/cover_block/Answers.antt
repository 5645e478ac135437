use Rattle.std.proofs.Common.{◌+◌, ◌<◌, vec_len, length, sym, ap, subst, arith}
use Rattle.sl_code_instructions.specs.declared.code.TheConstants.{MAX_INSTRS}
use Rattle.sl_compile_plans.specs.Trees.{Tree, size_of}
use Rattle.sl_compile_pieces.specs.covers.Trees.{cover_tree}
use Rattle.sl_blocks.specs.inner.Covers.{cover_slots, cover_with}
use Rattle.sl_blocks.proofs.Laid.{laid_as, laid_at}
use Rattle.sl_blocks.proofs.LaidBlocks.{cover_stands, cover_planned}
use Rattle.sl_blocks.proofs.covers.cover_block.Goals as goal

pub lay-requires : goal.lay-requires
lay-requires c =
    let x = cover_slots c.args.base c.args.eligible c.args.scratch in
    subst (λ (t : Tree). vec_len c.args.code.now + size_of (cover_with x t) < MAX_INSTRS) (sym (c.cover_contested.ensures x)) (omega (arith, c.requires.room))

pub returns-clause-plan : goal.returns-clause-plan
returns-clause-plan c =
    let code = c.args.code.now in
    let x = cover_slots c.args.base c.args.eligible c.args.scratch in
    cover_planned c.args.slots.now code.items c.lay.new.code.items x c.lay.result c.requires.job
    (laid_at c.lay.result (cover_tree x) (vec_len code) (length code.items) code.items c.lay.new.code.items code.ok.0
    (laid_as c.lay.result _ _ (vec_len code) code.items c.lay.new.code.items (ap (cover_with x) (c.cover_contested.ensures x)) c.lay.ensures.ok))

pub returns-clause-ok : goal.returns-clause-ok
returns-clause-ok c =
    let code = c.args.code.now in
    let x = cover_slots c.args.base c.args.eligible c.args.scratch in
    cover_stands c.args.slots.now code.items c.lay.new.code.items x c.lay.result c.requires.job
    (laid_at c.lay.result (cover_tree x) (vec_len code) (length code.items) code.items c.lay.new.code.items code.ok.0
    (laid_as c.lay.result _ _ (vec_len code) code.items c.lay.new.code.items (ap (cover_with x) (c.cover_contested.ensures x)) c.lay.ensures.ok))
