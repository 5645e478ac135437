use Rattle.std.proofs.Common.{◌≡◌, ◌+◌, IfSome, map, string_bytes, subst, sym, take}
use Rattle.sl_report_forms.specs.CellTexts.{shown_text}
use Rattle.sl_report_forms.specs.Shown.{texts_in}
use Rattle.sl_report_forms.proofs.ShownSteps.{gain_more, same_items, told_more, told_same}
use Rattle.sl_report_forms.proofs.shown.shown_row.Goals as goal
use Rattle.sl_report_forms.proofs.shown.shown_row.Goals.{in-Some, in_default}

pub loop-column-preserved : goal.loop-column-preserved
loop-column-preserved c =
    let names = c.args.names.now in
    let columns = c.args.columns.now in
    let row = c.args.row.now in
    let i = c.loop-column.column-index in
    elim c.match-get.branch [
      | in-Some w ↦
          subst (λ o. IfSome o (λ ts. map string_bytes ts ≡ texts_in c.args.language names (take (i + 1) columns) row)) (sym w.texts-is) (
          gain_more string_bytes _ _ _ _ _ _ w.push.ensures w.text.ensures c.loop-column.invariant
          (told_more (shown_text c.args.language names) row columns i _ c.get.result w.in-Some.cell c.loop-column-test.true c.get.ensures.lookup w.in-Some.is))
      | in_default w ↦
          subst (λ o. IfSome o (λ ts. map string_bytes ts ≡ texts_in c.args.language names (take (i + 1) columns) row)) (sym w.texts-is) (
          same_items string_bytes _ _ _ c.loop-column.invariant
          (told_same (shown_text c.args.language names) row columns i _ c.get.result c.loop-column-test.true c.get.ensures.lookup w.in_default.is))
    ]
