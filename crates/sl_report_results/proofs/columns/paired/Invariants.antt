use Rattle.std.proofs.Common.{◌≡◌, map, take}
use Rattle.std.specs.List.{zip}
use Rattle.sl_law_meaning.specs.meaning.Columns.{paired}
use Rattle.sl_report_results.proofs.columns.paired.Given as goal

abbrev pub invariant-loop-number : goal.invariant-loop-number
invariant-loop-number l = l.cells.items ≡ map (λ x. paired l.pairing x.0 x.1) (take l.number (zip l.firsts l.seconds))
