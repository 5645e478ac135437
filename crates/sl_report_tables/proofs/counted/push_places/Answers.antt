use Rattle.std.proofs.Common.{append_assoc, map, refl, ◌∙◌, ◌∷◌, []}
use Rattle.sl_report_forms.specs.Tables.{table_of}
use Rattle.sl_report_tables.specs.Parties.{open_table, singles_table}
use Rattle.sl_report_tables.proofs.MoreTables.{table_added}
use Rattle.sl_report_tables.proofs.counted.push_places.Goals as goal

pub returns : goal.returns
returns c =
    let e = c.args.returns.now in
    let t = c.args.table.now in
    let singles = table_added _ _ (singles_table e t) refl c.placed_sheet-singles.ensures c.in_ok-add_sheet.ensures in
    table_added _ _ (open_table e t) singles c.placed_sheet-open.ensures c.in_ok-add_sheet-2.ensures
    ∙ append_assoc (map table_of c.args.sheets.now.items) (singles_table e t ∷ []) (open_table e t ∷ [])
