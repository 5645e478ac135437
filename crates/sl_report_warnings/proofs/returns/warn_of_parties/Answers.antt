use Rattle.std.proofs.Common.{arith}
use Rattle.sl_report_warnings.proofs.Pieces.{pieces_behind, pieces_end}
use Rattle.sl_report_warnings.proofs.returns.warn_of_parties.Goals as goal
use Rattle.sl_report_warnings.specs.Warnings.{of_party}

pub loop-party-preserved : goal.loop-party-preserved
loop-party-preserved c = pieces_behind (of_party c.args.counts.now.returns.now) c.loop-party.party _ _ _ c.loop-party.invariant c.in_ok-warn_of_party.ensures

pub returns : goal.returns
returns c = pieces_end (of_party c.args.counts.now.returns.now) c.loop-party.party _ _ _ (omega (arith, c.parties-party-end.ensures.number)) c.loop-party.invariant
