use Rattle.std.proofs.Common.{◌≡◌, IfSome, map, string_bytes, take}
use Rattle.sl_report_forms.specs.Shown.{texts_in}
use Rattle.sl_report_forms.proofs.shown.shown_row.Given as goal

abbrev pub invariant-loop-column : goal.invariant-loop-column
invariant-loop-column l = IfSome l.texts (λ ts. map string_bytes ts ≡ texts_in l.language l.names (take l.column-index l.columns) l.row)
