-- The test that fails is the first.
use Rattle.sl_returns.proofs.TestLemmas.{after, here, exit}
use Rattle.sl_returns.proofs.join.join_house.Goals as goal

pub returns-in_err-blanks-clause-refused : goal.returns-in_err-blanks-clause-refused
returns-in_err-blanks-clause-refused c = exit c.from_residual.result c.from_residual.ensures.1 (here _ c.in_err-blanks.ensures.failed)

pub returns-in_err-seats-clause-refused : goal.returns-in_err-seats-clause-refused
returns-in_err-seats-clause-refused c =
    let seats = rw c.cell.ensures at c.in_err-seats.ensures.failed in
    exit c.from_residual-in_err-seats.result c.from_residual-in_err-seats.ensures.1 (after c.in_ok-blanks.ensures.passed (here _ (here _ seats)))
