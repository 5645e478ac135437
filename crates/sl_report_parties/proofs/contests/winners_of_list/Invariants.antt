use Rattle.std.proofs.Common.{◌≡◌, map, take}
use Rattle.sl_report_parties.specs.inner.Winners.{ranked_by}
use Rattle.sl_report_parties.proofs.contests.winners_of_list.Given as goal

abbrev pub invariant-loop-number : goal.invariant-loop-number
invariant-loop-number l = l.winners.items ≡ map (ranked_by l.table l.list l.own) (take l.number-index l.own)
