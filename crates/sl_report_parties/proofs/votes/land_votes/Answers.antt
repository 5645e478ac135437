use Rattle.std.proofs.Common.{arith}
use Rattle.sl_law_meaning.specs.returns.Election.{list_at}
use Rattle.sl_law_meaning.specs.returns.Votes.{valid_in, counted_in}
use Rattle.sl_report_parties.proofs.Steps.{sum_range_more}
use Rattle.sl_report_parties.proofs.votes.land_votes.Goals as goal

pub loop-party-preserved : goal.loop-party-preserved
loop-party-preserved c =
    let valid_more = sum_range_more (λ party. valid_in (list_at c.args.returns.now c.args.land party)) c.loop-party.party in
    let counted_more = sum_range_more (λ party. counted_in (list_at c.args.returns.now c.args.land party)) c.loop-party.party in
    record {
      valid = grind (arith, valid_more, c.loop-party.invariant.valid);
      counted = grind (arith, counted_more, c.loop-party.invariant.counted);
      valid_fits = grind arith;
      counted_fits = grind arith;
    }
