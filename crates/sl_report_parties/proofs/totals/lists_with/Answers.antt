use Rattle.std.proofs.Common.{arith, cond, ap, count_by}
use Rattle.sl_law_meaning.specs.returns.Election.{has_list}
use Rattle.sl_report_parties.specs.Sums.{one_if}
use Rattle.sl_report_parties.proofs.Steps.{one_if_le, sum_range_more, at_last}
use Rattle.sl_law_meaning.specs.returns.Election.{lands_of}
use Rattle.sl_report_parties.proofs.totals.lists_with.Goals as goal

pub loop-land-preserved : goal.loop-land-preserved
loop-land-preserved c =
    let more = sum_range_more (λ land. cond (has_list c.args.returns.now land c.args.party) 1 0) c.loop-land.land in
    record {
      lists = omega (arith, more, c.loop-land.invariant.lists, c.one_if-lists.ensures, ap one_if c.is_list.ensures);
      few = omega (arith, one_if_le c.is_list.result, c.loop-land.invariant.few, c.one_if-lists.ensures);
    }

pub returns : goal.returns
returns c = at_last (count_by (λ land. has_list c.args.returns.now land c.args.party)) c.loop-land.land (lands_of c.args.returns.now) _ (omega (arith, c.lands-land-end.ensures.number)) c.loop-land.invariant.lists
