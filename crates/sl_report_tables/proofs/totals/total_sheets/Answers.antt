use Rattle.std.proofs.Common.{ap, map, sym}
use Rattle.std.specs.Prelude.{option_map}
use Rattle.sl_report_forms.specs.Tables.{table_of}
use Rattle.sl_report_tables.specs.Totals.{IsVotesTable, conditions_of}
use Rattle.sl_report_tables.proofs.MoreTables.{kind_added, option_twice, table_added}
use Rattle.sl_law_meaning.specs.book.Books.{book_of}
use Rattle.sl_report_tables.proofs.totals.total_sheets.Goals as goal

pub returns : goal.returns
returns c =
    let totals = table_added _ _ _ (ap (map table_of) c.new-sheets.ensures.items) c.totals_sheet.ensures c.in_ok-add_sheet.ensures in
    let votes =
    kind_added _ _ (IsVotesTable (conditions_of (option_map (λ b. b.now) c.args.book)) c.args.returns.now) totals
    (rw c.conditions_of-conditions.ensures at c.votes_sheet.ensures) c.in_ok-add_sheet-2.ensures in
    let lands = table_added _ _ _ votes.2 (rw c.in_ok-counts.ensures at c.lands_sheet.ensures) c.in_ok-add_sheet-3.ensures in
    let winners = table_added _ _ _ lands (rw c.in_ok-counts.ensures at c.winners_sheet.ensures) c.in_ok-add_sheet-4.ensures in
    record {
      votes = votes.0;
      votes_are = votes.1;
      tables_are = table_added _ _ _ winners (rw (sym (option_twice (λ b. b.now) book_of c.args.book)) at c.warnings_sheet.ensures) c.in_ok-add_sheet-5.ensures;
    }
