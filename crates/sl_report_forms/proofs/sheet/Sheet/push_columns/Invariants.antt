use Rattle.std.proofs.Common.{◌≡◌, take}
use Rattle.sl_report_forms.specs.Tables.{heads_of, table_of, with_heads}
use Rattle.sl_report_forms.proofs.sheet.Sheet.push_columns.Given as goal

abbrev pub invariant-loop-column : goal.invariant-loop-column
invariant-loop-column l = table_of l.self ≡ with_heads (table_of l.initial.self) (heads_of (take l.column-index l.columns))
