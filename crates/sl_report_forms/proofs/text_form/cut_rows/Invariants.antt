use Rattle.std.proofs.Common.{◌≡◌, IfSome, map, string_bytes, take}
use Rattle.sl_report_forms.specs.TextForm.{cut_row}
use Rattle.sl_report_forms.proofs.text_form.cut_rows.Given as goal

abbrev pub invariant-loop-row : goal.invariant-loop-row
invariant-loop-row l =
    IfSome l.rows (λ rs. map (λ r. map string_bytes r.items) rs ≡ map (λ r. cut_row l.shown.columns.items (map string_bytes r.items)) (take l.row-index l.shown.rows.items))
