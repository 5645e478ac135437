use Rattle.std.proofs.Common.{◌≡◌, map}
use Rattle.std.specs.Prelude.{slice_index}
use Rattle.std.specs.List.{range_with_len}
use Rattle.sl_report_parties.proofs.facts.Setting.people.Given as goal

abbrev pub invariant-loop-land : goal.invariant-loop-land
invariant-loop-land l = l.cells.items ≡ map (λ land. slice_index l.self.returns.now.populations land) (range_with_len 0 l.land)
