-- A field of a record, or nothing.
use Rattle.csv.specs.Records.{fields_of}
use Rattle.sl_returns.proofs.CellLemmas.{cell_there, cell_absent}
use Rattle.sl_returns.proofs.cells.cell.Goals as goal

pub returns-in-Some : goal.returns-in-Some
returns-in-Some c = cell_there (fields_of c.args.fields.now) c.args.column c.in-Some.cell.now c.in-Some.ensures.value

pub returns-in-None : goal.returns-in-None
returns-in-None c = cell_absent (fields_of c.args.fields.now) c.args.column c.in-None.ensures.value
