use Rattle.std.proofs.Common.{sum_by}
use Rattle.sl_report_parties.specs.Sums.{capped}
use Rattle.sl_report_parties.proofs.Steps.{at_end}
use Rattle.sl_report_parties.proofs.earlier.all_before.Goals as goal

pub returns : goal.returns
returns c = at_end (λ all. capped (sum_by (λ p. p.seats) all)) c.args.earlier.now c.loop-party.party-index _ c.loop-party-test.false c.loop-party.invariant
