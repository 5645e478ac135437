use Rattle.std.proofs.Common.{◌++◌, ◌+◌, codes, map, string_bytes, subst, sym, take}
use Rattle.std.specs.List.{zip}
use Rattle.sl_report_forms.specs.Drafts.{Grows}
use Rattle.sl_report_forms.specs.HtmlForm.{html_cells}
use Rattle.sl_report_forms.proofs.HtmlLaws.{row_more, row_same}
use Rattle.sl_report_forms.proofs.html_form.put_row.Goals as goal
use Rattle.sl_report_forms.proofs.html_form.put_row.Goals.{in-Some, in_default}

pub loop-place-preserved : goal.loop-place-preserved
loop-place-preserved c =
    let t = c.args.first in
    let u = c.args.other in
    let columns = c.args.columns.now in
    let row = c.args.row.now in
    let i = c.loop-place.place in
    elim c.match-get.branch [
      | in-Some w ↦
          subst (λ o. Grows c.args.out.now o (codes "<tr>" ++ html_cells t u (zip (take (i + 1) columns) (map string_bytes row)))) (sym w.out-is) (
          row_more t u columns row i c.get.result c.get.ensures.lookup _ w.in-Some.text _ _ _ c.loop-place-test.true w.in-Some.is c.loop-place.invariant
          (rw (w.tag_at.ensures, w.as_str.ensures.value) at w.put_cell.ensures))
      | in_default w ↦
          subst (λ o. Grows c.args.out.now o (codes "<tr>" ++ html_cells t u (zip (take (i + 1) columns) (map string_bytes row)))) (sym w.out-is) (
          row_same t u columns row i c.get.result c.get.ensures.lookup _ _ w.in_default.is c.loop-place.invariant)
    ]
