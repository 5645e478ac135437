use Rattle.std.proofs.Common.{ap, arith, sym, ◌∙◌}
use Rattle.std.proofs.lemmas.List.Sums.{count_by_more_no, count_by_more_yes}
use Rattle.std.proofs.lemmas.Option.{get_or_from_slice_get, slice_get_within}
use Rattle.sl_explain_faults.specs.Winners.{is_winner_in}
use Rattle.sl_explain_faults.proofs.counts.winners_in.Goals as goal
use Rattle.sl_explain_faults.proofs.counts.winners_in.Goals.{else-is_winner_in, then-is_winner_in}

pub loop-number-preserved : goal.loop-number-preserved
loop-number-preserved c =
    let wins = c.args.returns.now.wins in
    let n = c.loop-number.number in
    let winner = c.win.result in
    let within = slice_get_within wins n winner c.win.ensures in
    let is = ap (is_winner_in c.args.scope) (get_or_from_slice_get wins n winner winner c.win.ensures) in
    elim c.if-is_winner_in.branch [
      | then-is_winner_in w ↦
          let more = count_by_more_yes (is_winner_in c.args.scope) wins n winner within (is ∙ sym c.is_winner_in.ensures ∙ w.if-is_winner_in.true) in
          record {
            winners = omega (arith, more, c.loop-number.invariant.winners, w.winners-is);
            few = omega (arith, c.loop-number.invariant.few, w.winners-is);
          }
      | else-is_winner_in w ↦
          let more = count_by_more_no (is_winner_in c.args.scope) wins n winner within (is ∙ sym c.is_winner_in.ensures ∙ w.if-is_winner_in.false) in
          record {
            winners = omega (arith, more, c.loop-number.invariant.winners, w.winners-is);
            few = omega (arith, c.loop-number.invariant.few, w.winners-is);
          }
    ]
