use Rattle.std.proofs.Common.{◌∙◌, ◌&&◌, ap, is_ok, not, sym}
use Rattle.sl_explain_texts.proofs.Characters.{tested}
use Rattle.sl_report_tables.specs.Earlier.{is_table}
use Rattle.sl_report_tables.proofs.cases.earlier_of.Goals as goal

pub returns-in_default-clause-which : goal.returns-in_default-clause-which
returns-in_default-clause-which c =
    let text = c.args.text.now in
    ap (λ b. not (b && is_table text)) (sym (ap is_ok c.in_default.is) ∙ tested _ _ text c.from_utf8.result c.from_utf8.ensures.cases)

pub returns-in-Ok-2-clause-which : goal.returns-in-Ok-2-clause-which
returns-in-Ok-2-clause-which c =
    let text = c.args.text.now in
    let told = rw c.in-Ok-2.is at c.in_ok-found.ensures.told in
    ap not (sym told.0 ∙ ap is_table c.in-Ok.ensures.cases.0)
    ∙ ap (λ b. not (b && is_table text)) (sym (ap is_ok c.in-Ok.is) ∙ tested _ _ text c.from_utf8.result c.from_utf8.ensures.cases)
