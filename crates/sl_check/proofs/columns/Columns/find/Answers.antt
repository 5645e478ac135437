use Rattle.std.proofs.Common.{◌∙◌, add-one}
use Rattle.sl_check.proofs.Finding.{find-drop}
use Rattle.sl_check.proofs.columns.Columns.find.Goals as goal

pub loop-i-preserved : goal.loop-i-preserved
loop-i-preserved c = rw add-one (c.loop-i.invariant ∙ find-drop _ _ _ _ c.stage-item.result c.loop-i-test.true c.args.self.now.paired c.stage-item.is (cc))
