use Rattle.std.proofs.Common.{arith}
use Rattle.sl_report_forms.specs.MarkdownForm.{markdown_block}
use Rattle.sl_report_forms.specs.Shown.{view_in}
use Rattle.sl_report_forms.proofs.MarkdownLaws.{block_next}
use Rattle.sl_report_forms.proofs.markdown_form.put_sheets.Goals as goal

pub loop-shown-preserved : goal.loop-shown-preserved
loop-shown-preserved c =
    block_next (λ shown. markdown_block (view_in shown)) (λ shown. omega arith) c.args.sheets.now c.loop-shown.shown-index c.shown-item.result _ _ _ c.loop-shown-test.true c.shown-item.is
    c.loop-shown.invariant c.put_shown.ensures
