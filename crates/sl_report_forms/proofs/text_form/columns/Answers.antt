use Rattle.std.proofs.Common.{◌∷◌, map, string_bytes}
use Rattle.sl_report_forms.proofs.TextLaws.{columns_more}
use Rattle.sl_report_forms.proofs.text_form.columns.Goals as goal

pub loop-place-preserved : goal.loop-place-preserved
loop-place-preserved c =
    let columns = c.deref-column-items.result.now in
    let lines = map string_bytes c.args.shown.now.titles.items ∷ map (λ r. map string_bytes r.items) c.args.rows.now in
    let i = c.loop-place.place in
    columns_more columns lines i _ _ _ _ c.loop-place-test.true (rw c.as_slice.ensures.value at c.column_in.ensures) c.push.ensures c.loop-place.invariant
