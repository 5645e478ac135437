use Rattle.std.proofs.Common.{refl, map}
use Rattle.sl_report_parties.proofs.Steps.{at_end}
use Rattle.sl_report_results.proofs.Pushed.{mapped_next}
use Rattle.sl_report_results.proofs.margins.held_of.Goals as goal

pub loop-entry-preserved : goal.loop-entry-preserved
loop-entry-preserved c = mapped_next c.args.entries.now (λ x. x.seats) c.loop-entry.entry-index _ _ _ _ c.loop-entry-test.true c.loop-entry.invariant c.in_ok-push.ensures.items refl

pub returns : goal.returns
returns c = at_end (map (λ x. x.seats)) c.args.entries.now c.loop-entry.entry-index _ c.loop-entry-test.false c.loop-entry.invariant
