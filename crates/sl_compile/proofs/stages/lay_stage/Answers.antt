use Rattle.sl_law_meaning.specs.book.Trees.{stage_of}
use Rattle.sl_compile.specs.inner.Earlier.{columns}
use Rattle.sl_compile.proofs.Walks.{expr_room, copy_room, stage_blocks}
use Rattle.sl_compile.proofs.stages.lay_stage.Goals as goal

pub expr-requires-clause-room : goal.expr-requires-clause-room
expr-requires-clause-room c =
    let known = columns c.args.site.now.earlier.stages.now c.args.site.now.earlier.types.now in
    expr_room known c.args.site.now.stage (stage_of c.args.stage.now) c.args.code.now.items c.requires.room

pub copy_block-requires : goal.copy_block-requires
copy_block-requires c =
    let known = columns c.args.site.now.earlier.stages.now c.args.site.now.earlier.types.now in
    copy_room known c.args.site.now.stage (stage_of c.args.stage.now) c.in_ok-of.of c.column_slot.result c.stage_slot.result c.args.code.now.items c.expr.new.code.items
    c.in_ok-of.ensures.has (c.column_slot.ensures known c.in_ok-of.ensures.has) c.stage_slot.ensures c.in_ok-of.ensures.blocks c.requires.room

pub returns-clause-blocks : goal.returns-clause-blocks
returns-clause-blocks c =
    let known = columns c.args.site.now.earlier.stages.now c.args.site.now.earlier.types.now in
    stage_blocks known c.args.site.now.stage (stage_of c.args.stage.now) c.in_ok-of.of c.column_slot.result c.stage_slot.result c.args.code.now.items c.expr.new.code.items
    c.in_ok-of.ensures.has (c.column_slot.ensures known c.in_ok-of.ensures.has) c.stage_slot.ensures c.in_ok-of.ensures.blocks c.requires.number c.copy_block.new.code.items c.in_ok-copy_block.ensures.ok
