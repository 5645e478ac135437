use Rattle.std.proofs.Common.{None}
use Rattle.sl_report_results.specs.Lots.{IsMark}
use Rattle.sl_report_results.proofs.Pushed.{each_next, long_next}
use Rattle.sl_report_results.proofs.lots.marks_of.Goals as goal

pub loop-entry-preserved : goal.loop-entry-preserved
loop-entry-preserved c =
    let inv = c.loop-entry.invariant in
    record {
      long = long_next _ _ _ _ inv.long c.in_ok-push.ensures.items;
      marked = each_next (IsMark c.args.drawn c.args.last.now c.args.next.now) _ _ _ None _ inv.long c.in_ok-push.ensures.items c.mark_of.ensures inv.marked;
    }
