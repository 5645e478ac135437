use Rattle.std.proofs.Common.{◌≡◌, ◌++◌, map}
use Rattle.std.specs.List.{range_with_len}
use Rattle.sl_report_parties.specs.Cells.{list_cell}
use Rattle.sl_report_parties.proofs.facts.Setting.push_row.Given as goal

abbrev pub invariant-loop-party : goal.invariant-loop-party
invariant-loop-party l = l.cells.items ≡ l.initial.cells.items ++ map (list_cell l.self.book.now.eligible.items l.self.returns.now l.fact l.land) (range_with_len 0 l.party)
