use Rattle.std.proofs.Common.{◌≡◌, map}
use Rattle.std.specs.Prelude.{sum_by}
use Rattle.std.specs.List.{range_with_len}
use Rattle.sl_law_meaning.specs.returns.Facts.{list_cell, parties}
use Rattle.sl_report_parties.specs.Sums.{capped}
use Rattle.sl_report_results.proofs.columns.land_sums.Given as goal

abbrev pub invariant-loop-land : goal.invariant-loop-land
invariant-loop-land l = l.cells.items ≡ map (λ land. capped (sum_by (λ party. list_cell l.returns l.column.cells.items land party) (parties l.returns))) (range_with_len 0 l.land)
