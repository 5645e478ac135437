use Rattle.std.proofs.Common.{◌≡◌, ◌≤◌, count_by, take}
use Rattle.sl_explain_faults.specs.Winners.{is_winner_in}
use Rattle.sl_explain_faults.proofs.counts.winners_in.Given as goal

abbrev pub invariant-loop-number : goal.invariant-loop-number
invariant-loop-number l = record {
  winners : l.winners ≡ count_by (is_winner_in l.scope) (take l.number l.returns.wins);
  few : l.winners ≤ l.number;
}
