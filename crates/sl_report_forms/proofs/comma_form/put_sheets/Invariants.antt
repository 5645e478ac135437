use Rattle.std.proofs.Common.{take}
use Rattle.sl_report_forms.specs.CommaForm.{AddsRecords, comma_records}
use Rattle.sl_report_forms.proofs.comma_form.put_sheets.Given as goal

abbrev pub invariant-loop-number : goal.invariant-loop-number
invariant-loop-number l = AddsRecords l.initial.out l.out (comma_records l.names (take l.number l.sheets))
