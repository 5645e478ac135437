use Rattle.std.proofs.Common.{map, take}
use Rattle.sl_report_forms.specs.MarkdownForm.{Becomes, with_blocks}
use Rattle.sl_report_forms.specs.Shown.{view_in}
use Rattle.sl_report_forms.specs.TextForm.{aligned_block}
use Rattle.sl_report_forms.proofs.text_form.put_sheets.Given as goal

abbrev pub invariant-loop-shown : goal.invariant-loop-shown
invariant-loop-shown l = Becomes l.fn.out l.out (with_blocks (map (λ shown. aligned_block (view_in shown)) (take l.shown-index l.sheets)))
