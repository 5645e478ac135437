use Rattle.std.proofs.Common.{ap, map}
use Rattle.sl_report_forms.specs.Tables.{table_of}
use Rattle.sl_report_tables.proofs.MoreTables.{table_added}
use Rattle.sl_report_tables.proofs.counted.first_sheets.Goals as goal

pub returns : goal.returns
returns c =
    let law = table_added _ _ _ (ap (map table_of) c.new-sheets.ensures.items) c.law_sheet.ensures c.in_ok-add_sheet.ensures in
    table_added _ _ _ law c.parties_sheet.ensures c.in_ok-add_sheet-2.ensures
