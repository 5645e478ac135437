use Rattle.std.proofs.Common.{arith, sum_by}
use Rattle.sl_report_parties.specs.Sums.{capped, lists_of}
use Rattle.sl_report_parties.proofs.Steps.{sum_range_more, at_last}
use Rattle.sl_law_meaning.specs.returns.Election.{parties_of}
use Rattle.sl_report_parties.proofs.totals.all_lists.Goals as goal

pub loop-party-preserved : goal.loop-party-preserved
loop-party-preserved c = omega (arith, c.saturating_add-lists.ensures, c.lists_with.ensures, c.loop-party.invariant, sum_range_more (lists_of c.args.returns.now) c.loop-party.party)

pub returns : goal.returns
returns c = at_last (λ parties. capped (sum_by (lists_of c.args.returns.now) parties)) c.loop-party.party (parties_of c.args.returns.now) _ (omega (arith, c.parties-party-end.ensures.number)) c.loop-party.invariant
