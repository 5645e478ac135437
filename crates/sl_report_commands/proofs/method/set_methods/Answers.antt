-- One more stage has the method.
use Rattle.std.proofs.Common.{arith, map, refl}
use Rattle.sl_law_meaning.specs.book.Trees.{stage_of}
use Rattle.sl_report_commands.specs.Methods.{stage_by_method}
use Rattle.sl_report_commands.proofs.OneSet.{one_set}
use Rattle.sl_report_commands.proofs.method.set_methods.Goals as goal

pub loop-number-preserved : goal.loop-number-preserved
loop-number-preserved c =
    one_set stage_of (stage_by_method c.args.by) c.loop-number.stages (map stage_of c.args.stages.now) c.loop-number.number c.index-stages-number.result _
    (omega (arith, c.loop-number-test.true, c.loop-number.auto.stages)) c.loop-number.invariant (rw c.set_method.ensures refl)
