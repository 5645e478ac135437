use Rattle.std.proofs.Common.{◌≡◌, IfSome, map, string_bytes, take}
use Rattle.sl_report_forms.specs.Shown.{titles_in}
use Rattle.sl_report_forms.proofs.shown.titles.Given as goal

abbrev pub invariant-loop-column : goal.invariant-loop-column
invariant-loop-column l = IfSome l.titles (λ ts. map string_bytes ts ≡ titles_in l.language (take l.column-index l.columns) l.heads)
