use Rattle.std.proofs.Common.{◌∙◌, ◌&&◌, ap, arith, is_some, sym}
use Rattle.csv.specs.Records.{field_at, fields_of}
use Rattle.sl_report_tables.specs.Names.{is_text}
use Rattle.sl_report_tables.proofs.PairsOfNames.{two_cells}
use Rattle.sl_report_tables.proofs.full_names.pair_of.Goals as goal

pub returns-in_err-text_at : goal.returns-in_err-text_at
returns-in_err-text_at c =
    let cells = fields_of c.args.fields.now in
    ap is_some c.from_residual.ensures
    ∙ sym (two_cells cells (omega (arith, c.if-len-ne2.false, c.len.ensures)) ∙ ap (λ b. b && is_text (field_at cells 1)) (sym c.in_err-text_at.ensures))

pub returns-in_err-text_at-2 : goal.returns-in_err-text_at-2
returns-in_err-text_at-2 c =
    let cells = fields_of c.args.fields.now in
    ap is_some c.from_residual-in_err-text_at-2.ensures
    ∙ sym (two_cells cells (omega (arith, c.if-len-ne2.false, c.len.ensures)) ∙ ap (λ b. b && is_text (field_at cells 1)) (sym c.in_ok-text_at.ensures) ∙ sym c.in_err-text_at-2.ensures)

pub returns : goal.returns
returns c =
    let cells = fields_of c.args.fields.now in
    sym (two_cells cells (omega (arith, c.if-len-ne2.false, c.len.ensures)) ∙ ap (λ b. b && is_text (field_at cells 1)) (sym c.in_ok-text_at.ensures) ∙ sym c.in_ok-text_at-2.ensures)
