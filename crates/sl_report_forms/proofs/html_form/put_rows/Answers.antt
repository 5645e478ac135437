use Rattle.std.proofs.Common.{map, string_bytes}
use Rattle.sl_report_forms.specs.HtmlForm.{html_row}
use Rattle.sl_report_forms.specs.declared.html_form.Tag.TheVariants.{First, Other}
use Rattle.sl_report_forms.proofs.ShownSteps.{grow_next}
use Rattle.sl_report_forms.proofs.html_form.put_rows.Goals as goal

pub loop-row-preserved : goal.loop-row-preserved
loop-row-preserved c =
    let shown = c.args.shown.now in
    let rows = c.deref-row-items.ensures.value in
    grow_next (λ row. map string_bytes row.items) (html_row First Other shown.columns.items) shown.rows.items c.loop-row.row-index c.row-item.result _ _ _
    (rw rows at c.loop-row-test.true) (rw rows at c.row-item.is) c.loop-row.invariant
    (rw (c.as_slice.ensures.value, c.as_slice-in-loop-row.ensures.value) at c.put_row.ensures)
