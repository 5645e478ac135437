use Rattle.std.proofs.Common.{arith}
use Rattle.sl_report_warnings.proofs.Pieces.{pieces_behind, pieces_end}
use Rattle.sl_report_warnings.proofs.returns.warn_of_places.Goals as goal
use Rattle.sl_report_warnings.specs.Warnings.{of_place}

pub loop-land-preserved : goal.loop-land-preserved
loop-land-preserved c = pieces_behind (of_place c.args.counts.now.returns.now c.args.party) c.loop-land.land _ _ _ c.loop-land.invariant c.in_ok-warn_of_place.ensures

pub returns : goal.returns
returns c = pieces_end (of_place c.args.counts.now.returns.now c.args.party) c.loop-land.land _ _ _ (omega (arith, c.lands-land-end.ensures.number)) c.loop-land.invariant
