use Rattle.std.proofs.Common.{◌≡◌}
use Rattle.std.specs.List.{range_with_len, flat_map}
use Rattle.sl_law_meaning.specs.returns.Facts.{by_party}
use Rattle.sl_report_parties.specs.Cells.{list_cell}
use Rattle.sl_report_parties.proofs.facts.Setting.list_column.Given as goal

abbrev pub invariant-loop-land : goal.invariant-loop-land
invariant-loop-land l = l.cells.items ≡ flat_map (λ land. by_party l.self.returns.now (list_cell l.self.book.now.eligible.items l.self.returns.now l.fact land)) (range_with_len 0 l.land)
