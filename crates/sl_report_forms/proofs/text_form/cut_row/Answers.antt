use Rattle.std.proofs.Common.{◌≡◌, ◌∙◌, ◌+◌, IfOk, IfSome, ap, map, string_bytes, subst, sym, take}
use Rattle.std.specs.List.{zip}
use Rattle.std.proofs.lemmas.List.{map_push}
use Rattle.sl_report_forms.specs.TextForm.{cut_row, cut_text}
use Rattle.sl_report_forms.proofs.ShownSteps.{gain_more, same_items}
use Rattle.sl_report_forms.proofs.TextLaws.{beside_more, beside_same}
use Rattle.sl_report_forms.proofs.text_form.cut_row.Goals as goal
use Rattle.sl_report_forms.proofs.text_form.cut_row.Goals.{in-Some, in_default}

pub loop-place-preserved : goal.loop-place-preserved
loop-place-preserved c =
    let columns = c.args.columns.now in
    let row = c.args.row.now in
    let i = c.loop-place.place in
    elim c.match-get.branch [
      | in-Some w ↦
          subst (λ o. IfSome o (λ ts. map string_bytes ts ≡ cut_row (take (i + 1) columns) (map string_bytes row))) (sym w.texts-is) (
          gain_more string_bytes _ _ _ _ _ _ w.push.ensures
          (subst (λ z. IfOk w.cut.result (λ t. string_bytes t ≡ cut_text _ z)) w.as_str.ensures.value w.cut.ensures)
          c.loop-place.invariant
          (ap (map (λ p. cut_text p.0.look p.1)) (beside_more columns row i c.get.result c.get.ensures.lookup _ w.in-Some.text c.loop-place-test.true w.in-Some.is)
          ∙ map_push (λ p. cut_text p.0.look p.1) (zip (take i columns) (map string_bytes row)) _))
      | in_default w ↦
          subst (λ o. IfSome o (λ ts. map string_bytes ts ≡ cut_row (take (i + 1) columns) (map string_bytes row))) (sym w.texts-is) (
          same_items string_bytes _ _ _ c.loop-place.invariant
          (ap (map (λ p. cut_text p.0.look p.1)) (sym (beside_same columns row i c.get.result c.get.ensures.lookup w.in_default.is))))
    ]
