use Rattle.std.proofs.Common.{ap, map}
use Rattle.sl_report_forms.specs.Tables.{table_of}
use Rattle.sl_report_tables.specs.Faults.{IsExplanation}
use Rattle.sl_report_tables.proofs.MoreTables.{kind_added, table_added}
use Rattle.sl_report_tables.proofs.faults.fault_sheets.Goals as goal

pub returns : goal.returns
returns c =
    let fault = table_added _ _ _ (ap (map table_of) c.new-sheets.ensures.items) c.fault_sheet.ensures c.in_ok-add_sheet.ensures in
    kind_added _ _ IsExplanation fault c.explanation_sheet.ensures c.in_ok-add_sheet-2.ensures
