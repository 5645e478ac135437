use Rattle.std.proofs.Common.{◌≡◌, [], take}
use Rattle.std.specs.List.{filter_map}
use Rattle.sl_report_forms.specs.HtmlForm.{law_in}
use Rattle.sl_report_forms.specs.Shown.{view_in}
use Rattle.sl_report_forms.proofs.html_form.law_of.Given as goal

abbrev pub invariant-loop-shown : goal.invariant-loop-shown
invariant-loop-shown l = filter_map (λ shown. law_in (view_in shown)) (take l.shown-index l.sheets) ≡ []
