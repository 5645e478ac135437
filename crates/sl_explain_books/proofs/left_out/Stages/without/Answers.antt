-- One stage more is left, or left out.
use Rattle.std.proofs.Common.{◌∙◌, add-one, map}
use Rattle.sl_law_meaning.specs.book.Trees.{stage_of}
use Rattle.sl_explain_books.proofs.LeftOut.{left_more, lost_more}
use Rattle.sl_explain_books.proofs.left_out.Stages.without.Goals as goal

pub loop-stage-preserved : goal.loop-stage-preserved
loop-stage-preserved c = rw add-one record {
  left = left_more c.args.clause c.args.stages.now c.loop-stage.stage-index c.stage-item.result (map stage_of c.loop-stage.all.left.items) _ c.loop-stage.all.lost.items _ c.loop-stage-test.true c.stage-item.is c.in_ok-add.ensures.left c.in_ok-add.ensures.lost ∙ c.loop-stage.invariant.left;
  lost = lost_more c.args.clause c.args.stages.now c.loop-stage.stage-index c.stage-item.result c.loop-stage.all.lost.items _ c.loop-stage-test.true c.stage-item.is c.in_ok-add.ensures.lost ∙ c.loop-stage.invariant.lost;
}
