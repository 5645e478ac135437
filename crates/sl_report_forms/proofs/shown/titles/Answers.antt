use Rattle.std.proofs.Common.{◌≡◌, ◌+◌, IfOk, IfSome, map, string_bytes, subst, sym, take}
use Rattle.sl_report_forms.specs.Heads.{head_text}
use Rattle.sl_report_forms.specs.Shown.{titles_in}
use Rattle.sl_report_forms.proofs.ShownSteps.{gain_more, same_items, told_more, told_same}
use Rattle.sl_report_forms.proofs.shown.titles.Goals as goal
use Rattle.sl_report_forms.proofs.shown.titles.Goals.{in-Some, in_default}

pub loop-column-preserved : goal.loop-column-preserved
loop-column-preserved c =
    let columns = c.args.columns.now in
    let heads = c.args.heads.now in
    let i = c.loop-column.column-index in
    elim c.match-get.branch [
      | in-Some w ↦
          subst (λ o. IfSome o (λ ts. map string_bytes ts ≡ titles_in c.args.language (take (i + 1) columns) heads)) (sym w.titles-is) (
          gain_more string_bytes _ _ _ _ _ _ w.push.ensures
          (subst (λ z. IfOk w.copied.result (λ t. string_bytes t ≡ z)) w.text.ensures w.copied.ensures)
          c.loop-column.invariant
          (told_more (head_text c.args.language) heads columns i _ c.get.result w.in-Some.head c.loop-column-test.true c.get.ensures.lookup w.in-Some.is))
      | in_default w ↦
          subst (λ o. IfSome o (λ ts. map string_bytes ts ≡ titles_in c.args.language (take (i + 1) columns) heads)) (sym w.titles-is) (
          same_items string_bytes _ _ _ c.loop-column.invariant
          (told_same (head_text c.args.language) heads columns i _ c.get.result c.loop-column-test.true c.get.ensures.lookup w.in_default.is))
    ]
