use Rattle.std.proofs.Common.{Some, ap, append_assoc, true, ◌∙◌, ◌++◌, ◌∷◌, []}
use Rattle.sl_report_tables.specs.Parties.{lists_table}
use Rattle.sl_report_tables.specs.Reports.{first_tables, place_tables}
use Rattle.sl_report_tables.proofs.MoreTables.{table_added}
use Rattle.sl_report_tables.proofs.steps.seat_sheets.Goals as goal

pub returns : goal.returns
returns c =
    let e = c.args.setting.now.returns.now in
    let t = c.args.table.now in
    let first = first_tables c.args.setting.now.book.now e (Some t) in
    c.in_ok-push_places.ensures
    ∙ ap (λ v. v ++ place_tables e t) (table_added _ _ (lists_table true e t) c.in_ok-sheets.ensures c.lists_sheet.ensures c.in_ok-add_sheet.ensures)
    ∙ append_assoc first (lists_table true e t ∷ []) (place_tables e t)
