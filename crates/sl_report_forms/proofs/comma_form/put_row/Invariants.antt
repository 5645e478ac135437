use Rattle.std.proofs.Common.{◌≡◌, [], take}
use Rattle.csv.specs.Records.{fields_of, partial_of}
use Rattle.sl_report_forms.specs.CommaForm.{row_record}
use Rattle.sl_report_forms.proofs.comma_form.put_row.Given as goal

abbrev pub invariant-loop-cell : goal.invariant-loop-cell
invariant-loop-cell l = (fields_of l.fields ≡ row_record l.names l.key (take l.cell-index l.row)) × (partial_of l.fields ≡ [])
