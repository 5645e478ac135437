-- The records read so far are pairs of names.
use Rattle.std.proofs.Common.{Some}
use Rattle.csv.specs.Reading.{strip_bom}
use Rattle.sl_report_tables.proofs.PairsOfNames.{IsReading}
use Rattle.sl_report_tables.proofs.full_names.FullNames.add_all.Given as goal

abbrev pub invariant-loop-row : goal.invariant-loop-row
invariant-loop-row l = IsReading (λ s. Some s.now) l.reader l.row (strip_bom l.fn.bytes)
