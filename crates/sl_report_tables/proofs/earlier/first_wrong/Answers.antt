use Rattle.std.proofs.Common.{ap, is_some, ◌∙◌, sym}
use Rattle.std.specs.List.{list_all}
use Rattle.sl_report_tables.specs.Earlier.{is_line}
use Rattle.sl_report_tables.proofs.EarlierSteps.{not_empty, some_wrong}
use Rattle.sl_report_tables.proofs.earlier.first_wrong.Goals as goal

pub returns : goal.returns
returns c =
    let lines = c.args.lines.now in
    ap is_some c.wrong_line.ensures ∙ some_wrong (λ l. is_line l.now) lines
    ∙ sym (not_empty lines (list_all (λ l. is_line l.now) lines) (sym c.is_empty.ensures ∙ c.if-is_empty.false))
