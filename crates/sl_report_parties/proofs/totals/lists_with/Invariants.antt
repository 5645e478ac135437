use Rattle.std.proofs.Common.{◌≡◌, ◌≤◌, count_by}
use Rattle.std.specs.List.{range_with_len}
use Rattle.sl_law_meaning.specs.returns.Election.{has_list}
use Rattle.sl_report_parties.proofs.totals.lists_with.Given as goal

abbrev pub invariant-loop-land : goal.invariant-loop-land
invariant-loop-land l = record {
  lists : l.lists ≡ count_by (λ land. has_list l.returns land l.party) (range_with_len 0 l.land);
  few : l.lists ≤ l.land;
}
