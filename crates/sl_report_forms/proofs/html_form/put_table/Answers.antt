use Rattle.sl_report_forms.proofs.ShownSteps.{grow_more}
use Rattle.sl_report_forms.proofs.html_form.put_table.Goals as goal

pub returns : goal.returns
returns c =
    grow_more _ _ _ _ _ (grow_more _ _ _ _ _ (grow_more _ _ _ _ _ (grow_more _ _ _ _ _ c.push_str.ensures c.put_titles.ensures) c.push_str-2.ensures) c.put_rows.ensures)
    c.push_str-3.ensures
