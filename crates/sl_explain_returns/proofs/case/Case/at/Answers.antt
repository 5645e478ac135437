-- A cell begins at a place of its record; where there is none, the end of the text is one.
use Rattle.std.proofs.Common.{rules}
use Rattle.sl_explain_returns.proofs.Places.{of_cell, of_end}
use Rattle.sl_explain_returns.proofs.case.Case.at.Goals as goal

pub returns-in-Some : goal.returns-in-Some
returns-in-Some c = of_cell c.args.self.now.bytes.now c.args.self.now.refused.fault.row c.args.column c.in-Some.place (search rules)

pub returns-in-None : goal.returns-in-None
returns-in-None c = of_end c.args.self.now.bytes.now c.args.self.now.refused.fault.row
