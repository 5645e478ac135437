use Rattle.std.proofs.Common.{arith}
use Rattle.sl_law_meaning.specs.returns.Election.{list_at}
use Rattle.sl_law_meaning.specs.returns.Votes.{valid_in, counted_in}
use Rattle.sl_report_parties.proofs.Steps.{sum_range_more}
use Rattle.sl_report_parties.proofs.votes.party_votes.Goals as goal

pub loop-land-preserved : goal.loop-land-preserved
loop-land-preserved c =
    let valid_more = sum_range_more (λ land. valid_in (list_at c.args.returns.now land c.args.party)) c.loop-land.land in
    let counted_more = sum_range_more (λ land. counted_in (list_at c.args.returns.now land c.args.party)) c.loop-land.land in
    record {
      valid = grind (arith, valid_more, c.loop-land.invariant.valid);
      counted = grind (arith, counted_more, c.loop-land.invariant.counted);
      valid_fits = grind arith;
      counted_fits = grind arith;
    }
