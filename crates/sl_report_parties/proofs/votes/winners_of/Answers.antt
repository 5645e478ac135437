use Rattle.std.proofs.Common.{arith, count_by}
use Rattle.sl_report_parties.specs.Sums.{is_with}
use Rattle.sl_report_parties.proofs.Steps.{count_next, one_if_le, at_end}
use Rattle.sl_report_parties.proofs.votes.winners_of.Goals as goal

pub loop-number-preserved : goal.loop-number-preserved
loop-number-preserved c =
    let more = count_next (is_with c.args.party) c.args.returns.now.wins c.loop-number.number c.win.result c.is_of.result c.win.ensures c.is_of.ensures in
    record {
      winners = omega (arith, more, c.loop-number.invariant.winners, c.one_if-winners.ensures);
      few = omega (arith, one_if_le c.is_of.result, c.loop-number.invariant.few, c.one_if-winners.ensures);
    }

pub returns : goal.returns
returns c = at_end (count_by (is_with c.args.party)) c.args.returns.now.wins c.loop-number.number _ (omega (arith, c.wins-number-end.ensures.number)) c.loop-number.invariant.winners
