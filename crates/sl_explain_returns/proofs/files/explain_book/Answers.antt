-- A rulebook is spoken of from the beginning of the text.
use Rattle.sl_explain_returns.proofs.Places.{of_beginning}
use Rattle.sl_explain_returns.proofs.files.explain_book.Goals as goal

pub says-requires-clause-place : goal.says-requires-clause-place
says-requires-clause-place c = of_beginning c.args.case.now.bytes.now c.args.case.now.refused.fault.row
