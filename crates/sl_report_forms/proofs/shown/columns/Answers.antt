use Rattle.std.proofs.Common.{◌≡◌, ◌∙◌, ◌+◌, false, subst, sym, take}
use Rattle.sl_report_forms.specs.Shown.{is_shown}
use Rattle.sl_report_forms.proofs.ShownSteps.{Found, found_by, found_same}
use Rattle.sl_report_forms.proofs.shown.columns.Goals as goal
use Rattle.sl_report_forms.proofs.shown.columns.Goals.{then-is_shown, else-is_shown}

pub loop-place-preserved : goal.loop-place-preserved
loop-place-preserved c =
    let p = is_shown c.args.sheet.now in
    let heads = c.deref-head-items.result.now in
    let i = c.loop-place.place in
    let h = c.head-item.result in
    elim c.if-is_shown.branch [
      | then-is_shown w ↦
          subst (Found p (take (i + 1) heads)) (sym w.columns-is) (
          found_by p heads i h c.loop-place-test.true c.head-item.is _ c.place_of-column.ensures _ _ (sym c.is_shown.ensures ∙ w.if-is_shown.true) w.push.ensures c.loop-place.invariant)
      | else-is_shown w ↦
          subst (Found p (take (i + 1) heads)) (sym w.columns-is) (
          found_same p heads i h c.loop-place-test.true c.head-item.is _
          (subst (λ column. p column ≡ false) c.place_of-column.ensures (sym c.is_shown.ensures ∙ w.if-is_shown.false)) c.loop-place.invariant)
    ]
