use Rattle.std.proofs.Common.{◌≡◌, ◌∙◌, ◌++◌, codes, ℕ, List, Option, ap, map, string_bytes, sym}
use Rattle.std.specs.Prelude.{option_map}
use Rattle.std.specs.List.{flat_map}
use Rattle.std.proofs.lemmas.List.Folds.{flat_map-map}
use Rattle.std.proofs.lemmas.Result.{IfOk-weaker}
use Rattle.sl_report_forms.specs.HtmlForm.{html_fault, html_head, html_heading, html_section, language_code, with_law}
use Rattle.sl_report_forms.specs.Shown.{view_in}
use Rattle.sl_report_forms.proofs.ShownSteps.{grow_as, grow_more, grown_text}
use Rattle.sl_report_forms.proofs.html_form.html_text.Goals as goal

pub returns : goal.returns
returns c =
    let title = c.title_of-title.result.now in
    let views = map view_in c.args.sheets.now in
    let page = λ (law : Option (List ℕ)). html_head (language_code c.args.heading.now.language) (with_law title law) ++ codes "<body>\n"
    ++ html_heading (with_law title law) ++ html_fault (option_map (λ l. l.now) c.args.line) ++ flat_map html_section views ++ codes "</body>\n</html>\n" in
    let begin = grow_more _ _ _ _ _ (grow_more _ _ _ _ _ (grow_more _ _ _ _ _ c.put_head.ensures c.push_str.ensures) c.put_heading.ensures) c.put_fault.ensures in
    let sections = grow_as _ _ _ _ c.put_sheets.ensures (sym (flat_map-map html_section view_in c.args.sheets.now)) in
    IfOk-weaker c.finished.result (λ t. string_bytes t ≡ page (option_map (λ l. l.now) c.law_of-law.result)) _ (λ t h. (title, h ∙ ap page c.law_of-law.ensures))
    (grown_text c.finished.result c.new-out.result _ _ c.new-out.ensures c.finished.ensures.ok (grow_more _ _ _ _ _ (grow_more _ _ _ _ _ begin sections) c.push_str-2.ensures))
