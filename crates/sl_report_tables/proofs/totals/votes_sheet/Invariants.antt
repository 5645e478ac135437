use Rattle.std.specs.List.{range_with_len}
use Rattle.sl_report_forms.specs.Tables.{table_of}
use Rattle.sl_report_tables.specs.Totals.{IsVotesRow}
use Rattle.sl_report_tables.proofs.GrowingTables.{Grows}
use Rattle.sl_report_tables.proofs.totals.votes_sheet.Given as goal

abbrev pub invariant-loop-party : goal.invariant-loop-party
invariant-loop-party l = Grows (IsVotesRow l.conditions l.returns) (range_with_len 0 l.party) (table_of l.initial.sheet) (table_of l.sheet)
