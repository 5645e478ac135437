use Rattle.std.proofs.Common.{◌≡◌, ◌≤◌, ap, length, map, string_bytes, subst}
use Rattle.std.proofs.lemmas.List.{take_all}
use Rattle.sl_report_forms.specs.Shown.{texts_in}
use Rattle.sl_report_forms.proofs.ShownSteps.{filled, same_items}
use Rattle.sl_report_forms.proofs.shown.shown_rows.Goals as goal

pub returns : goal.returns
returns c =
    let rows = c.args.sheet.now.rows.items in
    let past : length rows ≤ c.loop-row.row-index = subst (λ xs. length xs ≤ c.loop-row.row-index) c.deref-row-items.ensures.value c.loop-row-test.false in
    filled (λ rs. map (λ r. map string_bytes r.items) rs ≡ map (λ r. texts_in c.args.language c.args.names.now c.args.columns.now r.items) rows) (λ v. v.items) _ _ c.finished.ensures.ok
    (same_items (λ r. map string_bytes r.items) _ _ _ c.loop-row.invariant (ap (map (λ r. texts_in c.args.language c.args.names.now c.args.columns.now r.items)) (take_all c.loop-row.row-index rows past)))
