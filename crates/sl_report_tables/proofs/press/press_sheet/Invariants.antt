use Rattle.std.proofs.Common.{◌++◌, map, take, ◌≡◌}
use Rattle.sl_report_forms.specs.Tables.{blank_table, table_of, with_rows}
use Rattle.sl_report_tables.specs.Columns.{listed}
use Rattle.sl_report_tables.specs.declared.press.TheConstants.{PRESS}
use Rattle.sl_report_tables.specs.Press.{named_columns, press_row}
use Rattle.std.specs.Prelude.{codes}
use Rattle.sl_report_tables.proofs.press.press_sheet.Given as goal

abbrev pub invariant-loop-pressed : goal.invariant-loop-pressed
invariant-loop-pressed l = table_of l.sheet ≡ with_rows (blank_table (codes "press") (named_columns l.are_full ++ listed PRESS)) (map (press_row l.setting.returns.now) (take l.pressed-index l.pressed-items))
