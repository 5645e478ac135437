use Rattle.std.proofs.Common.{None}
use Rattle.sl_law_margins.specs.MissingVotes.{AreMissing}
use Rattle.sl_report_results.proofs.Pushed.{each_next, long_next}
use Rattle.sl_report_results.proofs.margins.all_missing.Goals as goal

pub loop-entry-preserved : goal.loop-entry-preserved
loop-entry-preserved c =
    let inv = c.loop-entry.invariant in
    record {
      long = long_next _ _ _ _ inv.long c.in_ok-push.ensures.items;
      missing = each_next (AreMissing c.args.method c.args.weights.now c.args.seats.now) _ _ _ None _ inv.long c.in_ok-push.ensures.items c.votes_missing_by.ensures.missing inv.missing;
    }
