use Rattle.sl_report_forms.proofs.ShownSteps.{grow_more}
use Rattle.sl_report_forms.proofs.html_form.put_shown.Goals as goal

pub returns : goal.returns
returns c =
    let title = rw c.as_str.ensures.value at c.put_text.ensures in
    grow_more _ _ _ _ _ (grow_more _ _ _ _ _ (grow_more _ _ _ _ _ (grow_more _ _ _ _ _ c.push_str.ensures title) c.push_str-2.ensures) c.put_table.ensures) c.push_str-3.ensures
