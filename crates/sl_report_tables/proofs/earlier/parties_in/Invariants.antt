use Rattle.std.proofs.Common.{◌≡◌, filter_map, map, take}
use Rattle.sl_report_tables.specs.Earlier.{party_told, told_party, words}
use Rattle.sl_report_tables.proofs.earlier.parties_in.Given as goal

abbrev pub invariant-loop-line : goal.invariant-loop-line
invariant-loop-line l = map party_told l.found.items ≡ filter_map (λ x. told_party (words x.now)) (take l.line-index l.lines)
