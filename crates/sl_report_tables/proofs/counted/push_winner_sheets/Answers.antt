use Rattle.std.proofs.Common.{List, append_assoc, ap, map, refl, ◌≡◌, ◌∙◌, ◌++◌, ◌∷◌, []}
use Rattle.sl_report_forms.specs.Tables.{table_of}
use Rattle.sl_report_parties.specs.declared.contests.Ranked.{Ranked}
use Rattle.sl_report_tables.specs.Parties.{AreCovered, covering_table}
use Rattle.sl_report_tables.specs.Reports.{place_tables}
use Rattle.sl_report_tables.proofs.MoreTables.{kind_added}
use Rattle.sl_report_tables.proofs.counted.push_winner_sheets.Goals as goal

pub returns : goal.returns
returns c =
    let b = c.args.setting.now.book.now in
    let e = c.args.setting.now.returns.now in
    let table = c.args.table.now in
    let before = map table_of c.args.sheets.now.items in
    let covering =
    kind_added _ _ (λ t. (ranked : List Ranked) × AreCovered b.last.seating b.eligible.items table e ranked × (t ≡ covering_table ranked)) refl
    c.covering_sheet.ensures c.in_ok-add_sheet.ensures in (
      covering.1.0,
      covering.1.1,
      c.in_ok-push_places.ensures
          ∙ ap (λ v. v ++ place_tables e table) covering.2
          ∙ append_assoc before (covering.0 ∷ []) (place_tables e table)
          ∙ ap (λ t. before ++ t ∷ place_tables e table) covering.1.2,
    )
