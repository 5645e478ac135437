use Rattle.std.proofs.Common.{◌≡◌, ◌∷◌, IfSome, map, string_bytes, take}
use Rattle.sl_report_forms.specs.TextForm.{columns_of}
use Rattle.sl_report_forms.proofs.text_form.columns.Given as goal

abbrev pub invariant-loop-place : goal.invariant-loop-place
invariant-loop-place l =
    IfSome l.columns (λ cs. cs ≡ columns_of (take l.place l.column-items) (map string_bytes l.shown.titles.items ∷ map (λ r. map string_bytes r.items) l.fn.rows))
