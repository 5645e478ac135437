use Rattle.std.proofs.Common.{take}
use Rattle.std.specs.List.{flat_map}
use Rattle.sl_report_forms.specs.Drafts.{Grows}
use Rattle.sl_report_forms.specs.HtmlForm.{html_section}
use Rattle.sl_report_forms.specs.Shown.{view_in}
use Rattle.sl_report_forms.proofs.html_form.put_sheets.Given as goal

abbrev pub invariant-loop-shown : goal.invariant-loop-shown
invariant-loop-shown l = Grows l.fn.out l.out (flat_map (λ shown. html_section (view_in shown)) (take l.shown-index l.sheets))
