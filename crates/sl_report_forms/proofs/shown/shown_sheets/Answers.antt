use Rattle.std.proofs.Common.{◌≡◌, ◌∙◌, ◌+◌, map, subst, sym, take}
use Rattle.sl_report_forms.specs.Shown.{view_in, views_of}
use Rattle.sl_report_forms.proofs.ShownSteps.{views_more, views_same}
use Rattle.sl_report_forms.proofs.shown.shown_sheets.Goals as goal
use Rattle.sl_report_forms.proofs.shown.shown_sheets.Goals.{then-not-is_empty+in_ok-push, else-not-is_empty}

pub loop-sheet-preserved : goal.loop-sheet-preserved
loop-sheet-preserved c =
    let names = c.args.names.now in
    let sheets = c.args.sheets.now in
    let i = c.loop-sheet.sheet-index in
    elim c.if-not-is_empty.branch [
      | then-not-is_empty+in_ok-push w ↦
          subst (λ all. map view_in all.items ≡ views_of c.args.language names (take (i + 1) sheets)) (sym w.all-is) (
          subst (λ views. map view_in views ≡ views_of c.args.language names (take (i + 1) sheets)) (sym w.in_ok-push.ensures.items) (
          views_more c.args.language names sheets i c.sheet-item.result c.in_ok-shown.shown c.loop-sheet-test.true c.sheet-item.is c.in_ok-shown.ensures c.loop-sheet.all.items c.loop-sheet.invariant
          (sym c.is_empty.ensures ∙ w.if-not-is_empty.true)))
      | else-not-is_empty w ↦
          subst (λ all. map view_in all.items ≡ views_of c.args.language names (take (i + 1) sheets)) (sym w.all-is) (
          views_same c.args.language names sheets i c.sheet-item.result c.in_ok-shown.shown c.loop-sheet-test.true c.sheet-item.is c.in_ok-shown.ensures c.loop-sheet.all.items c.loop-sheet.invariant
          (sym c.is_empty.ensures ∙ w.if-not-is_empty.false))
    ]
