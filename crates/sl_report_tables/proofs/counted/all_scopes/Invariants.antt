use Rattle.std.proofs.Common.{List, ◌≡◌}
use Rattle.std.specs.List.{AllZip, flat_map, range_with_len}
use Rattle.sl_report_results.specs.declared.scopes.Scoped.{Scoped}
use Rattle.sl_report_tables.specs.Reports.{AreScopesOf}
use Rattle.sl_report_tables.proofs.counted.all_scopes.Given as goal

abbrev pub invariant-loop-stage : goal.invariant-loop-stage
invariant-loop-stage l =
    (each : List (List Scoped)) × AllZip (AreScopesOf l.setting.book.now l.setting.returns.now l.counted) (range_with_len 0 l.stage) each
    × (l.scopes.items ≡ flat_map (λ found. found) each)
