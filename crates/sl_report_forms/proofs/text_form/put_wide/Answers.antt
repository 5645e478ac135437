use Rattle.std.proofs.Common.{◌∙◌, ◌∷◌, OnOk, ap, map, string_bytes, subst, sym, true, false}
use Rattle.sl_report_forms.specs.Drafts.{Grows}
use Rattle.sl_report_forms.specs.Shown.{view_in}
use Rattle.sl_report_forms.specs.TextForm.{columns_of, fits}
use Rattle.sl_report_forms.proofs.TextLaws.{cut_narrow, cut_wide, table_is, whole_wide}
use Rattle.sl_report_forms.proofs.text_form.put_wide.Goals as goal
use Rattle.sl_report_forms.proofs.text_form.put_wide.Goals.{else-fits-via-then-fits+else-not-fits, else-fits-via-else-fits}

pub returns-then-not-fits : goal.returns-then-not-fits
returns-then-not-fits c =
    let v = view_in c.args.shown.now in
    let rows = ap (map (λ r. map string_bytes r.items)) c.as_slice.ensures.value ∙ c.in_ok-rows.ensures in
    let cut = c.in_ok-columns.ensures ∙ ap (λ rs. columns_of v.columns (v.titles ∷ rs)) rows in
    let same = c.requires.columns in
    subst (λ xs. OnOk c.put_lines.result (Grows c.args.out.now c.put_lines.new.out xs))
    (table_is v true _ _
    (whole_wide v (ap (fits 80) (sym same) ∙ c.requires.wide) (ap (fits 100) (sym same) ∙ sym c.fits.ensures ∙ c.if-fits.true)
    (ap (fits 80) (sym (c.as_slice-then-fits.ensures.value ∙ cut)) ∙ sym c.fits-then-fits.ensures ∙ c.if-not-fits.true))
    same (ap (λ ts. map string_bytes ts ∷ map (λ r. map string_bytes r.items) c.as_slice-then-not-fits.result.now) c.as_slice-titles.ensures.value ∙ ap (λ rs. v.titles ∷ map (λ r. map string_bytes r.items) rs) c.as_slice-then-not-fits.ensures.value))
    c.put_lines.ensures

pub returns : goal.returns
returns c =
    let v = view_in c.args.shown.now in
    let rows = ap (map (λ r. map string_bytes r.items)) c.as_slice.ensures.value ∙ c.in_ok-rows.ensures in
    let cut = c.in_ok-columns.ensures ∙ ap (λ rs. columns_of v.columns (v.titles ∷ rs)) rows in
    let same = c.requires.columns in
    let wide = ap (fits 80) (sym same) ∙ c.requires.wide in
    subst (λ xs. OnOk c.put_lines-else-fits.result (Grows c.args.out.now c.put_lines-else-fits.new.out xs))
    (table_is v false _ _
    (elim c.else-fits.branch [
      | else-fits-via-then-fits+else-not-fits w ↦
          cut_narrow v wide (ap (fits 80) (sym (w.as_slice-then-fits.ensures.value ∙ cut)) ∙ sym w.fits-then-fits.ensures ∙ w.if-not-fits.false)
      | else-fits-via-else-fits w ↦ cut_wide v wide (ap (fits 100) (sym same) ∙ sym c.fits.ensures ∙ w.if-fits.false)
    ])
    (c.as_slice-else-fits-2.ensures.value ∙ cut)
    (ap (λ ts. map string_bytes ts ∷ map (λ r. map string_bytes r.items) c.as_slice-else-fits.result.now) c.as_slice-titles.ensures.value
    ∙ ap (λ rs. v.titles ∷ map (λ r. map string_bytes r.items) rs) c.as_slice-else-fits.ensures.value ∙ ap (λ rs. v.titles ∷ rs) c.in_ok-rows.ensures))
    c.put_lines-else-fits.ensures
