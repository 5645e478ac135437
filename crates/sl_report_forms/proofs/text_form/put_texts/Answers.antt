use Rattle.std.proofs.Common.{◌∙◌, ◌++◌, ◌+◌, ℕ, List, ap, codes, map, string_bytes, subst, sym, take}
use Rattle.std.specs.List.{flat_map, zip}
use Rattle.sl_report_forms.specs.Drafts.{Grows}
use Rattle.sl_report_forms.specs.TextForm.{in_column, padded_line}
use Rattle.sl_report_forms.specs.declared.text_form.Column.{Column}
use Rattle.sl_report_forms.proofs.ShownSteps.{flat_map_push, grow_as, grow_more}
use Rattle.sl_report_forms.proofs.TextLaws.{beside_more, beside_same}
use Rattle.sl_report_forms.proofs.text_form.put_texts.Goals as goal
use Rattle.sl_report_forms.proofs.text_form.put_texts.Goals.{in-Some, in_default}

pub loop-place-preserved : goal.loop-place-preserved
loop-place-preserved c =
    let columns = c.args.columns.now in
    let line = c.args.line.now in
    let i = c.loop-place.place in
    let f : Column × List ℕ → List ℕ = λ p. in_column p.0 p.1 ++ codes "  " in
    elim c.match-get.branch [
      | in-Some w ↦
          subst (λ o. Grows c.args.out.now o (padded_line (take (i + 1) columns) (map string_bytes line))) (sym w.out-is) (
          grow_as _ _ _ _ (grow_more _ _ _ _ _ c.loop-place.invariant (grow_more _ _ _ _ _ (rw w.as_str.ensures.value at w.put_text.ensures) w.push_str.ensures))
          (sym (ap (flat_map f) (beside_more columns line i c.get.result c.get.ensures.lookup _ w.in-Some.text c.loop-place-test.true w.in-Some.is)
          ∙ flat_map_push f (zip (take i columns) (map string_bytes line)) _)))
      | in_default w ↦
          subst (λ o. Grows c.args.out.now o (padded_line (take (i + 1) columns) (map string_bytes line))) (sym w.out-is) (
          grow_as _ _ _ _ c.loop-place.invariant (ap (flat_map f) (sym (beside_same columns line i c.get.result c.get.ensures.lookup w.in_default.is))))
    ]
