use Rattle.std.proofs.Common.{◌∙◌, ap, sym}
use Rattle.std.specs.Prelude.{option_map, slice_get}
use Rattle.std.specs.List.{filter_map}
use Rattle.std.proofs.lemmas.List.{take_all}
use Rattle.sl_report_forms.specs.declared.shown.Shown.{Shown}
use Rattle.sl_report_forms.specs.HtmlForm.{law_in}
use Rattle.sl_report_forms.specs.Shown.{view_in}
use Rattle.sl_report_forms.proofs.ShownSteps.{filter_map-map, first_found, none_yet}
use Rattle.sl_report_forms.proofs.html_form.law_of.Goals as goal

pub returns-in-Some : goal.returns-in-Some
returns-in-Some c =
    sym (ap (λ laws. slice_get laws 0) (filter_map-map law_in view_in c.args.sheets.now)
    ∙ first_found (λ shown. law_in (view_in shown)) c.args.sheets.now c.loop-shown.shown-index c.shown-item.result c.in-Some.law.now c.loop-shown-test.true c.shown-item.is c.loop-shown.invariant
    (sym c.law_in.ensures ∙ ap (option_map (λ l. l.now)) c.in-Some.is))

pub loop-shown-preserved : goal.loop-shown-preserved
loop-shown-preserved c =
    none_yet (λ shown. law_in (view_in shown)) c.args.sheets.now c.loop-shown.shown-index c.shown-item.result c.loop-shown-test.true c.shown-item.is c.loop-shown.invariant
    (sym c.law_in.ensures ∙ ap (option_map (λ l. l.now)) c.in_default.is)

pub returns : goal.returns
returns c =
    let sheets = c.args.sheets.now in
    sym (ap (λ laws. slice_get laws 0) (
    filter_map-map law_in view_in sheets ∙ ap (filter_map {X = Shown} (λ shown. law_in (view_in shown))) (sym (take_all c.loop-shown.shown-index sheets c.loop-shown-test.false))
    ∙ c.loop-shown.invariant))
