use Rattle.std.proofs.Common.{◌≡◌}
use Rattle.std.specs.Prelude.{sum_by}
use Rattle.std.specs.List.{range_with_len}
use Rattle.sl_report_parties.specs.Sums.{capped, lists_of}
use Rattle.sl_report_parties.proofs.totals.all_lists.Given as goal

abbrev pub invariant-loop-party : goal.invariant-loop-party
invariant-loop-party l = l.lists ≡ capped (sum_by (lists_of l.returns) (range_with_len 0 l.party))
