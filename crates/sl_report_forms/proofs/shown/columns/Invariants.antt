use Rattle.std.proofs.Common.{◌≡◌, IfSome, map, take}
use Rattle.std.specs.List.{enumerate_from, filter}
use Rattle.sl_report_forms.specs.Shown.{place_of, is_shown}
use Rattle.sl_report_forms.proofs.shown.columns.Given as goal

abbrev pub invariant-loop-place : goal.invariant-loop-place
invariant-loop-place l = IfSome l.columns (λ found. found ≡ filter (is_shown l.sheet) (map place_of (enumerate_from 0 (take l.place l.head-items))))
