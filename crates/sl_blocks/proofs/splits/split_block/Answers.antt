use Rattle.std.proofs.Common.{vec_len, arith}
use Rattle.sl_compile_pieces.specs.nodes.Trees.{split_tree}
use Rattle.sl_blocks.specs.inner.Jobs.{slots_of}
use Rattle.sl_compile_plans.proofs.Modest.{size_at_most}
use Rattle.sl_compile_pieces.proofs.judged.Splits.{split_modest}
use Rattle.sl_blocks.proofs.Laid.{form_laid}
use Rattle.sl_blocks.proofs.LaidBlocks.{split_stands, split_planned}
use Rattle.sl_blocks.proofs.splits.split_block.Goals as goal

pub lay_block-requires-clause-fits : goal.lay_block-requires-clause-fits
lay_block-requires-clause-fits c =
    let j = c.args.job.now in
    let modest = split_modest c.form_of.result (slots_of j) c.args.method j.majority in
    omega (arith, c.requires.room, size_at_most 500000 0 350 (split_tree c.form_of.result (slots_of j) c.args.method j.majority) modest)

pub returns-clause-plan : goal.returns-clause-plan
returns-clause-plan c =
    let j = c.args.job.now in
    let code = c.args.code.now in
    split_planned c.args.slots.now code.items c.lay_block.new.code.items j c.lay_block.result c.args.method
    (form_laid c.lay_block.result c.args.slots.now j (λ f. split_tree f (slots_of j) c.args.method j.majority)
    (vec_len code) code.items c.lay_block.new.code.items c.form_of.result code.ok.0 c.form_of.ensures c.lay_block.ensures.ok)

pub returns-clause-ok : goal.returns-clause-ok
returns-clause-ok c =
    let j = c.args.job.now in
    let code = c.args.code.now in
    split_stands c.args.slots.now code.items c.lay_block.new.code.items j c.lay_block.result c.args.method c.requires.job.takes
    (form_laid c.lay_block.result c.args.slots.now j (λ f. split_tree f (slots_of j) c.args.method j.majority)
    (vec_len code) code.items c.lay_block.new.code.items c.form_of.result code.ok.0 c.form_of.ensures c.lay_block.ensures.ok)
