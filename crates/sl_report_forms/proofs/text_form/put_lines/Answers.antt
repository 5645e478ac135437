use Rattle.std.proofs.Common.{map, string_bytes, subst}
use Rattle.sl_report_forms.specs.Drafts.{Grows}
use Rattle.sl_report_forms.specs.TextForm.{aligned_line}
use Rattle.sl_report_forms.proofs.TextLaws.{grow_after}
use Rattle.sl_report_forms.proofs.text_form.put_lines.Goals as goal

pub loop-row-preserved : goal.loop-row-preserved
loop-row-preserved c =
    grow_after (λ r. map string_bytes r.items) (aligned_line c.args.columns.now) (aligned_line c.args.columns.now (map string_bytes c.args.titles.now)) c.args.rows.now c.loop-row.row-index c.row-item.result
    _ _ _ c.loop-row-test.true c.row-item.is c.loop-row.invariant
    (subst (λ xs. Grows c.loop-row.out c.put_line-in-loop-row.new.out (aligned_line c.args.columns.now (map string_bytes xs))) c.as_slice.ensures.value c.in_ok-put_line-2.ensures)
