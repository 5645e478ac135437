use Rattle.std.proofs.Common.{◌≡◌, ◌≤◌, ◌∙◌, ap, length, map, string_bytes, subst, sym}
use Rattle.std.proofs.lemmas.List.{take_all}
use Rattle.std.proofs.lemmas.Simd.{map-map}
use Rattle.sl_report_forms.specs.TextForm.{cut_row}
use Rattle.sl_report_forms.proofs.ShownSteps.{filled, same_items}
use Rattle.sl_report_forms.proofs.text_form.cut_rows.Goals as goal

pub returns : goal.returns
returns c =
    let rows = c.args.shown.now.rows.items in
    let columns = c.args.shown.now.columns.items in
    let past : length rows ≤ c.loop-row.row-index = subst (λ xs. length xs ≤ c.loop-row.row-index) c.deref-row-items.ensures.value c.loop-row-test.false in
    filled (λ rs. map (λ r. map string_bytes r.items) rs ≡ map (cut_row columns) (map (λ r. map string_bytes r.items) rows)) (λ v. v.items) _ _ c.finished.ensures.ok
    (same_items (λ r. map string_bytes r.items) _ _ _ c.loop-row.invariant (ap (map (λ r. cut_row columns (map string_bytes r.items))) (take_all c.loop-row.row-index rows past)
    ∙ sym (map-map (cut_row columns) (λ r. map string_bytes r.items) rows)))
