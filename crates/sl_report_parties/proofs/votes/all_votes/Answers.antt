use Rattle.std.proofs.Common.{arith}
use Rattle.sl_law_meaning.specs.returns.Votes.{counted_in}
use Rattle.sl_law_meaning.specs.returns.Facts.{valid_votes}
use Rattle.sl_report_parties.specs.Sums.{party_sum}
use Rattle.sl_report_parties.proofs.Steps.{sum_range_more}
use Rattle.sl_report_parties.proofs.votes.all_votes.Goals as goal

pub loop-party-preserved : goal.loop-party-preserved
loop-party-preserved c =
    let valid_more = sum_range_more (valid_votes c.args.returns.now) c.loop-party.party in
    let counted_more = sum_range_more (party_sum counted_in c.args.returns.now) c.loop-party.party in
    record {
      valid = grind (arith, valid_more, c.loop-party.invariant.valid);
      counted = grind (arith, counted_more, c.loop-party.invariant.counted);
      valid_fits = grind arith;
      counted_fits = grind arith;
    }
