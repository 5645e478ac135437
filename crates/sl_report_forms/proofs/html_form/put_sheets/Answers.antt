use Rattle.std.proofs.Common.{◌∙◌, ◌++◌, ◌∷◌, [], ap, sym, take}
use Rattle.std.specs.List.{flat_map}
use Rattle.std.proofs.lemmas.List.{take_more}
use Rattle.sl_report_forms.specs.HtmlForm.{html_section}
use Rattle.sl_report_forms.specs.Shown.{view_in}
use Rattle.sl_report_forms.specs.declared.shown.Shown.{Shown}
use Rattle.sl_report_forms.proofs.ShownSteps.{flat_map_push, grow_as, grow_more}
use Rattle.sl_report_forms.proofs.html_form.put_sheets.Goals as goal

pub loop-shown-preserved : goal.loop-shown-preserved
loop-shown-preserved c =
    let sheets = c.args.sheets.now in
    let i = c.loop-shown.shown-index in
    let shown = c.shown-item.result in
    grow_as _ _ _ _ (grow_more _ _ _ _ _ c.loop-shown.invariant c.put_shown.ensures) (sym (
    ap (flat_map {X = Shown} (λ s. html_section (view_in s))) (take_more sheets i shown c.loop-shown-test.true ∙ ap (λ s. take i sheets ++ s ∷ []) (sym c.shown-item.is))
    ∙ flat_map_push (λ s. html_section (view_in s)) (take i sheets) shown))
