use Rattle.std.proofs.Common.{Some, [], map, zip, take}
use Rattle.sl_report_forms.specs.Heads.{head_key}
use Rattle.sl_report_forms.specs.JsonForm.{Puts, cell_value}
use Rattle.sl_report_forms.proofs.json_form.row_value.Given as goal

abbrev pub invariant-loop-place : goal.invariant-loop-place
invariant-loop-place l = Puts (Some []) l.members (map (λ p. (head_key p.0, cell_value l.names p.1)) (zip l.heads (take l.place l.row)))
