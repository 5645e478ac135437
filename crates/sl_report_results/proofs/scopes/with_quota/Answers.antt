use Rattle.std.proofs.Common.{map}
use Rattle.sl_report_results.specs.Scopes.{quota_entry}
use Rattle.sl_report_parties.proofs.Steps.{at_end}
use Rattle.sl_report_results.proofs.Pushed.{mapped_next}
use Rattle.sl_report_results.proofs.scopes.with_quota.Goals as goal

pub loop-entry-preserved : goal.loop-entry-preserved
loop-entry-preserved c = mapped_next c.args.entries.now (quota_entry c.args.seats c.args.weight) c.loop-entry.entry-index _ _ _ _ c.loop-entry-test.true c.loop-entry.invariant c.in_ok-push.ensures.items c.quota_entry.ensures

pub returns : goal.returns
returns c = at_end (map (quota_entry c.args.seats c.args.weight)) c.args.entries.now c.loop-entry.entry-index _ c.loop-entry-test.false c.loop-entry.invariant
