use Rattle.std.proofs.Common.{Some, [], map, take}
use Rattle.serde_json.specs.Data.{string}
use Rattle.sl_law_meaning.specs.declared.fault.Scope.TheVariants as scope
use Rattle.sl_report_forms.specs.JsonForm.{Adds}
use Rattle.sl_report_forms.specs.NameTexts.{text_in}
use Rattle.sl_report_forms.specs.declared.names.Length.TheVariants.{Short}
use Rattle.sl_report_forms.proofs.json_form.entries_value.Given as goal

abbrev pub invariant-loop-entry : goal.invariant-loop-entry
invariant-loop-entry l = Adds (Some []) l.values (map (λ entry. string (text_in l.names Short scope.All entry)) (take l.entry-index l.entries))
