use Rattle.std.proofs.Common.{Bor, List, Some, ap, map, ◌≡◌, ◌∙◌, ◌∷◌, []}
use Rattle.std.specs.Prelude.{filter, not, option_map}
use Rattle.sl_report_forms.specs.Tables.{table_of}
use Rattle.sl_report_parties.specs.Press.{ArePressed}
use Rattle.sl_report_parties.specs.declared.earlier.EarlierParty.{EarlierParty}
use Rattle.sl_report_parties.specs.declared.press.Pressed.{Pressed}
use Rattle.sl_report_tables.specs.Parties.{house_of, law_table}
use Rattle.sl_report_tables.specs.Press.{IsLackingTable, is_whole, press_table}
use Rattle.sl_report_tables.specs.Scopes.{scopes_table}
use Rattle.sl_report_tables.proofs.MoreTables.{kind_added, table_added}
use Rattle.sl_report_tables.proofs.press.press_sheets.Goals as goal

pub returns : goal.returns
returns c =
    let b = c.args.setting.now.book.now in
    let e = c.args.setting.now.returns.now in
    let table = c.args.counted.now.table in
    let earlier = option_map (λ (all : Bor (List EarlierParty)). all.now) c.args.earlier in
    let are_full = not c.is_empty-are_full.result in
    let law = table_added _ _ _ (ap (map table_of) c.new-sheets.ensures.items) c.law_sheet.ensures c.in_ok-add_sheet.ensures in
    let press =
    kind_added _ _ (λ t. (found : List Pressed) × ArePressed b.eligible.items table e earlier found × (t ≡ press_table are_full e table earlier found))
    law c.press_sheet.ensures c.in_ok-add_sheet-2.ensures in
    let whole = table_added _ _ _ press.2 (rw c.as_slice.ensures.value at c.whole_sheet.ensures) c.in_ok-add_sheet-3.ensures in
    let lacking = kind_added _ _ (IsLackingTable are_full b.eligible.items e) whole c.lacking_sheet.ensures c.in_ok-add_sheet-4.ensures in
    record {
      pressed = press.1.0;
      are_pressed = press.1.1;
      scopes = c.in_ok-scopes.scopes.items;
      all = c.in_ok-scopes.ensures;
      lacking = lacking.0;
      are_full = are_full;
      lacks = lacking.1;
      tables_are =
          lacking.2
          ∙ ap (λ t. law_table b (house_of b e) (Some table) ∷ t ∷ scopes_table (filter is_whole c.in_ok-scopes.scopes.items) ∷ lacking.0 ∷ []) press.1.2;
    }
