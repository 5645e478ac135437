use Rattle.std.proofs.Common.{Some, ap, append_assoc, false, map, ◌∙◌, ◌++◌, ◌∷◌, []}
use Rattle.sl_report_forms.specs.Tables.{table_of}
use Rattle.sl_report_tables.specs.Parties.{lists_table}
use Rattle.sl_report_tables.specs.Reports.{first_tables, winner_tables}
use Rattle.sl_report_tables.specs.Scopes.{scope_tables}
use Rattle.sl_report_tables.proofs.MoreTables.{table_added}
use Rattle.sl_report_tables.proofs.counted.report_sheets.Goals as goal

pub returns : goal.returns
returns c =
    let e = c.args.setting.now.returns.now in
    let t = c.args.counted.now.table in
    let first = first_tables c.args.setting.now.book.now e (Some t) in
    let lists = lists_table false e t in
    let scopes = scope_tables c.in_ok-scopes.scopes.items in
    let winners = c.in_ok-push_winner_sheets.ensures in
    record {
      scopes = c.in_ok-scopes.scopes.items;
      all = c.in_ok-scopes.ensures;
      ranked = winners.0;
      covered = winners.1;
      tables_are =
          winners.2
          ∙ ap (λ v. v ++ winner_tables e t winners.0) (
          c.in_ok-push_scope_sheets.ensures
          ∙ ap (λ xs. map table_of c.add_sheet.new.sheets.items ++ scope_tables xs) c.as_slice.ensures.value
          ∙ ap (λ v. v ++ scopes) (table_added _ _ lists c.in_ok-sheets.ensures c.lists_sheet.ensures c.in_ok-add_sheet.ensures)
          ∙ append_assoc first (lists ∷ []) scopes)
          ∙ append_assoc first (lists ∷ scopes) (winner_tables e t winners.0);
    }
