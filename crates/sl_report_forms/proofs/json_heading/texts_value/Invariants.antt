use Rattle.sl_report_forms.proofs.JsonDepths.{AreWithin}
use Rattle.sl_report_forms.proofs.json_heading.texts_value.Given as goal

abbrev pub invariant-loop-text : goal.invariant-loop-text
invariant-loop-text l = AreWithin 0 l.values
