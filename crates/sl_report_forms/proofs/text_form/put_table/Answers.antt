use Rattle.std.proofs.Common.{◌∙◌, ◌∷◌, OnOk, ap, map, string_bytes, subst, sym, true}
use Rattle.sl_report_forms.specs.Drafts.{Grows}
use Rattle.sl_report_forms.specs.Shown.{view_in}
use Rattle.sl_report_forms.specs.TextForm.{columns_of, fits}
use Rattle.sl_report_forms.proofs.TextLaws.{table_is, whole_narrow}
use Rattle.sl_report_forms.proofs.text_form.put_table.Goals as goal

pub returns-then-fits : goal.returns-then-fits
returns-then-fits c =
    let v = view_in c.args.shown.now in
    let rows = ap (map (λ r. map string_bytes r.items)) c.as_slice-rows.ensures.value in
    let columns = c.in_ok-columns.ensures ∙ ap (λ rs. columns_of v.columns (v.titles ∷ rs)) rows in
    let narrow = ap (fits 80) (sym (c.as_slice.ensures.value ∙ columns)) ∙ sym c.fits.ensures ∙ c.if-fits.true in
    subst (λ xs. OnOk c.put_lines.result (Grows c.args.out.now c.put_lines.new.out xs))
    (table_is v true _ _ (whole_narrow v narrow) (c.as_slice-then-fits-2.ensures.value ∙ columns)
    (ap (λ ts. map string_bytes ts ∷ map (λ r. map string_bytes r.items) c.as_slice-rows.result.now) c.as_slice-then-fits.ensures.value ∙ ap (λ rs. v.titles ∷ rs) rows)) c.put_lines.ensures
