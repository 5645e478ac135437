use Rattle.std.proofs.Common.{◌≡◌}
use Rattle.std.specs.Prelude.{sum_by}
use Rattle.std.specs.List.{range_with_len}
use Rattle.sl_law_meaning.specs.returns.Facts.{list_cell}
use Rattle.sl_report_parties.specs.Sums.{capped}
use Rattle.sl_report_results.proofs.columns.party_sum.Given as goal

abbrev pub invariant-loop-land : goal.invariant-loop-land
invariant-loop-land l = l.sum ≡ capped (sum_by (λ land. list_cell l.returns l.column.cells.items land l.party) (range_with_len 0 l.land))
