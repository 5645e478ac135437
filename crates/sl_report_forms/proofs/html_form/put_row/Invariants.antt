use Rattle.std.proofs.Common.{◌++◌, codes, map, string_bytes, take}
use Rattle.std.specs.List.{zip}
use Rattle.sl_report_forms.specs.Drafts.{Grows}
use Rattle.sl_report_forms.specs.HtmlForm.{html_cells}
use Rattle.sl_report_forms.proofs.html_form.put_row.Given as goal

abbrev pub invariant-loop-place : goal.invariant-loop-place
invariant-loop-place l = Grows l.fn.out l.out (codes "<tr>" ++ html_cells l.first l.other (zip (take l.place l.columns) (map string_bytes l.row)))
