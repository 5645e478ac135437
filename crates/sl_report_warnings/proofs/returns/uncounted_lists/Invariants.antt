use Rattle.std.proofs.Common.{count_by, ◌≡◌, ◌≤◌}
use Rattle.std.specs.List.{range_with_len}
use Rattle.sl_law_meaning.specs.returns.Election.{list_at}
use Rattle.sl_report_warnings.specs.Warnings.{counts_none}
use Rattle.sl_report_warnings.proofs.returns.uncounted_lists.Given as goal

abbrev pub invariant-loop-land : goal.invariant-loop-land
invariant-loop-land l = record {
  lists : l.lists ≡ count_by (λ land. counts_none (list_at l.returns land l.party)) (range_with_len 0 l.land);
  few : l.lists ≤ l.land;
}
