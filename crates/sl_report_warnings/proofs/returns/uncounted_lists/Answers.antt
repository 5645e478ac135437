use Rattle.std.proofs.Common.{ap, arith, cond}
use Rattle.sl_report_parties.proofs.Steps.{one_if_le, sum_range_more}
use Rattle.sl_report_parties.specs.Sums.{one_if}
use Rattle.sl_law_meaning.specs.returns.Election.{list_at}
use Rattle.sl_report_warnings.proofs.returns.uncounted_lists.Goals as goal
use Rattle.sl_report_warnings.specs.Warnings.{counts_none}

pub loop-land-preserved : goal.loop-land-preserved
loop-land-preserved c =
    let more = sum_range_more (λ land. cond (counts_none (list_at c.args.returns.now land c.args.party)) 1 0) c.loop-land.land in
    record {
      lists = omega (arith, more, c.loop-land.invariant.lists, c.one_if-lists.ensures, ap one_if c.counts_none.ensures);
      few = omega (arith, one_if_le c.counts_none.result, c.loop-land.invariant.few, c.one_if-lists.ensures);
    }
