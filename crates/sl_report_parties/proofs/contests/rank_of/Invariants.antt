use Rattle.std.proofs.Common.{◌≡◌, ◌≤◌, take, count_by}
use Rattle.sl_report_parties.specs.Ranks.{is_above}
use Rattle.sl_report_parties.proofs.contests.rank_of.Given as goal

abbrev pub invariant-loop-other : goal.invariant-loop-other
invariant-loop-other l = record {
  ahead : l.ahead ≡ count_by (λ other. is_above l.win other.1) (take l.other-index l.own);
  few : l.ahead ≤ l.other-index;
}
