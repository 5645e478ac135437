use Rattle.std.proofs.Common.{Some, [], flat_map, filter, bytes_eq, take}
use Rattle.sl_report_forms.specs.JsonForm.{Adds, sheet_rows}
use Rattle.sl_report_forms.proofs.json_form.rows_of.Given as goal

abbrev pub invariant-loop-sheet : goal.invariant-loop-sheet
invariant-loop-sheet l = Adds (Some []) l.rows (flat_map (sheet_rows l.names) (filter (λ s. bytes_eq s.key.now l.key) (take l.sheet-index l.sheets)))
