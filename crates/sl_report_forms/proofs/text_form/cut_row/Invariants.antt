use Rattle.std.proofs.Common.{◌≡◌, IfSome, map, string_bytes, take}
use Rattle.sl_report_forms.specs.TextForm.{cut_row}
use Rattle.sl_report_forms.proofs.text_form.cut_row.Given as goal

abbrev pub invariant-loop-place : goal.invariant-loop-place
invariant-loop-place l = IfSome l.texts (λ ts. map string_bytes ts ≡ cut_row (take l.place l.columns) (map string_bytes l.row))
