use Rattle.std.proofs.Common.{Some, [], map, take}
use Rattle.sl_report_forms.specs.JsonForm.{Puts, table_value}
use Rattle.sl_report_forms.proofs.json_form.tables.Given as goal

abbrev pub invariant-loop-sheet : goal.invariant-loop-sheet
invariant-loop-sheet l = Puts (Some []) l.tables (map (λ s. (s.key.now, table_value l.names l.sheets s.key.now)) (take l.sheet-index l.sheets))
