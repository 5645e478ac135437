use Rattle.std.proofs.Common.{Some, [], map, take}
use Rattle.sl_report_forms.specs.JsonForm.{Adds, input_value}
use Rattle.sl_report_forms.proofs.json_heading.inputs_value.Given as goal

abbrev pub invariant-loop-input : goal.invariant-loop-input
invariant-loop-input l = Adds (Some []) l.values (map input_value (take l.input-index l.inputs))
