use Rattle.std.proofs.Common.{map, string_bytes, take}
use Rattle.std.specs.List.{flat_map}
use Rattle.sl_report_forms.specs.Drafts.{Grows}
use Rattle.sl_report_forms.specs.HtmlForm.{html_row}
use Rattle.sl_report_forms.specs.declared.html_form.Tag.TheVariants.{First, Other}
use Rattle.sl_report_forms.proofs.html_form.put_rows.Given as goal

abbrev pub invariant-loop-row : goal.invariant-loop-row
invariant-loop-row l = Grows l.fn.out l.out (flat_map (html_row First Other l.shown.columns.items) (map (λ row. map string_bytes row.items) (take l.row-index l.shown.rows.items)))
