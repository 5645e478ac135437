use Rattle.std.proofs.Common.{◌≡◌, ◌+◌, ◌-◌, ◌^◌, min, sum_by, take}
use Rattle.sl_report_forms.proofs.text_form.fits.Given as goal

abbrev pub invariant-loop-column : goal.invariant-loop-column
invariant-loop-column l = l.width ≡ min (sum_by (λ column. column.width + 2) (take l.column-index l.columns)) (2 ^ 64 - 1)
