use Rattle.sl_report_forms.specs.Shown.{view_in}
use Rattle.sl_report_forms.specs.TextForm.{aligned_block}
use Rattle.sl_report_forms.proofs.MarkdownLaws.{block_next}
use Rattle.sl_report_forms.proofs.TextLaws.{block_begins}
use Rattle.sl_report_forms.proofs.text_form.put_sheets.Goals as goal

pub loop-shown-preserved : goal.loop-shown-preserved
loop-shown-preserved c =
    block_next (λ shown. aligned_block (view_in shown)) (λ shown. block_begins (view_in shown)) c.args.sheets.now c.loop-shown.shown-index c.shown-item.result _ _ _
    c.loop-shown-test.true c.shown-item.is c.loop-shown.invariant c.in_ok-put_shown.ensures
