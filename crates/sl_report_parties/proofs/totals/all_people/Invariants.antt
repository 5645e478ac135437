use Rattle.std.proofs.Common.{◌≡◌}
use Rattle.std.specs.Prelude.{slice_index, sum_by}
use Rattle.std.specs.List.{range_with_len}
use Rattle.sl_report_parties.specs.Sums.{capped}
use Rattle.sl_report_parties.proofs.totals.all_people.Given as goal

abbrev pub invariant-loop-land : goal.invariant-loop-land
invariant-loop-land l = l.people ≡ capped (sum_by (slice_index l.returns.populations) (range_with_len 0 l.land))
