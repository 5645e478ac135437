use Rattle.sl_report_forms.proofs.ShownSteps.{grow_more}
use Rattle.sl_report_forms.proofs.html_form.put_head.Goals as goal

pub returns : goal.returns
returns c =
    let language = rw c.language_code.ensures at c.push_str-2.ensures in
    let begin = grow_more _ _ _ _ _ (grow_more _ _ _ _ _ (grow_more _ _ _ _ _ (grow_more _ _ _ _ _ c.push_str.ensures language) c.push_str-3.ensures) c.push_str-4.ensures) c.push_str-5.ensures in
    grow_more _ _ _ _ _ (grow_more _ _ _ _ _ (grow_more _ _ _ _ _ (grow_more _ _ _ _ _ begin c.put_title.ensures) c.push_str-6.ensures) c.push_str-7.ensures) c.push_str-8.ensures
