-- The tests of the columns so far hold.
use Rattle.csv.specs.Records.{fields_of}
use Rattle.sl_returns.proofs.Blanks.{ArePassed}
use Rattle.sl_returns.proofs.cells.blanks.Given as goal

abbrev pub invariant-loop-column : goal.invariant-loop-column
invariant-loop-column l = ArePassed l.kind (fields_of l.fields) l.column
