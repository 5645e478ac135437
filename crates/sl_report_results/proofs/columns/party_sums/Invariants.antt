use Rattle.std.proofs.Common.{◌≡◌, map}
use Rattle.std.specs.Prelude.{sum_by}
use Rattle.std.specs.List.{range_with_len}
use Rattle.sl_law_meaning.specs.returns.Facts.{lands, list_cell}
use Rattle.sl_report_parties.specs.Sums.{capped}
use Rattle.sl_report_results.proofs.columns.party_sums.Given as goal

abbrev pub invariant-loop-party : goal.invariant-loop-party
invariant-loop-party l = l.cells.items ≡ map (λ party. capped (sum_by (λ land. list_cell l.returns l.column.cells.items land party) (lands l.returns))) (range_with_len 0 l.party)
