use Rattle.sl_report_forms.specs.Tables.{table_of}
use Rattle.sl_report_tables.specs.Faults.{IsExplanation}
use Rattle.sl_report_tables.proofs.faults.explanation_sheet.Given as goal

abbrev pub invariant-loop-text : goal.invariant-loop-text
invariant-loop-text l = IsExplanation (table_of l.sheet)
