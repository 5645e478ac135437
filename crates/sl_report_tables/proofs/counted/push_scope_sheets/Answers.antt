use Rattle.std.proofs.Common.{Some, ap, append_assoc, map, refl, sym, ◌∙◌, ◌++◌, ◌∷◌, []}
use Rattle.std.proofs.lemmas.Option.{slice_get-get_or}
use Rattle.sl_report_forms.specs.Tables.{table_of}
use Rattle.sl_report_tables.specs.Scopes.{entries_table, scopes_table}
use Rattle.sl_report_tables.proofs.MoreTables.{table_added, tables_end, tables_next}
use Rattle.sl_report_tables.proofs.counted.push_scope_sheets.Goals as goal

pub loop-scoped-preserved : goal.loop-scoped-preserved
loop-scoped-preserved c =
    let here = slice_get-get_or c.args.scopes.now c.loop-scoped.scoped-index c.scoped-item.result c.loop-scoped-test.true ∙ ap Some (sym c.scoped-item.is) in
    tables_next entries_table c.args.scopes.now c.loop-scoped.scoped-index c.scoped-item.result _ _ _
    here c.loop-scoped.invariant c.entries_sheet.ensures c.in_ok-add_sheet-2.ensures

pub returns : goal.returns
returns c =
    let before = map table_of c.args.sheets.now.items in
    tables_end entries_table c.args.scopes.now c.loop-scoped.scoped-index _ _ c.loop-scoped-test.false c.loop-scoped.invariant
    ∙ ap (λ v. v ++ map entries_table c.args.scopes.now) (table_added _ _ _ refl c.scopes_sheet.ensures c.in_ok-add_sheet.ensures)
    ∙ append_assoc before (scopes_table c.args.scopes.now ∷ []) (map entries_table c.args.scopes.now)
