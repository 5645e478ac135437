use Rattle.std.proofs.Common.{map, take}
use Rattle.sl_report_forms.specs.CommaForm.{AddsRecords, row_record}
use Rattle.sl_report_forms.proofs.comma_form.put_rows.Given as goal

abbrev pub invariant-loop-row : goal.invariant-loop-row
invariant-loop-row l =
    AddsRecords l.initial.out l.out (map (λ r. row_record l.fn.names l.fn.sheet.key.now r.items) (take l.row-index l.fn.sheet.rows.items))
