use Rattle.std.proofs.Common.{map, take}
use Rattle.sl_report_forms.specs.JsonForm.{Adds, row_value}
use Rattle.sl_report_forms.proofs.json_form.push_rows.Given as goal

abbrev pub invariant-loop-row : goal.invariant-loop-row
invariant-loop-row l = Adds l.initial.rows l.rows (map (λ row. row_value l.names l.sheet.heads.items row.items) (take l.row-index l.sheet.rows.items))
