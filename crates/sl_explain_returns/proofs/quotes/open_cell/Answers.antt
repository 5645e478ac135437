-- An open quote is the first byte of a cell of the record.
use Rattle.std.proofs.Common.{rules}
use Rattle.sl_explain_returns.proofs.Places.{of_cell}
use Rattle.sl_explain_returns.proofs.quotes.open_cell.Goals as goal

pub returns-then-contains-2 : goal.returns-then-contains-2
returns-then-contains-2 c = of_cell c.args.case.now.bytes.now c.args.case.now.refused.fault.row c.args.column c.in_ok-place.place (search rules)
