-- The test that fails is the first.
use Rattle.std.proofs.Common.{◌++◌, Result, OnOk, IfErr, Ok, Err}
use Rattle.sl_returns.specs.declared.fault.RecordFault.{RecordFault}
use Rattle.sl_returns.specs.Tests.{Tests, Pass, FailBy}
use Rattle.sl_returns.proofs.TestLemmas.{after, both, here, refusing}
use Rattle.sl_returns.proofs.lot.ensure_filled.Goals as goal

pub returns-in_err-blanks-clause-failed : goal.returns-in_err-blanks-clause-failed
returns-in_err-blanks-clause-failed c = refusing c.from_residual.result c.from_residual.ensures.1 (here _ c.in_err-blanks.ensures.failed)

pub returns-in_err-ensure_cell-clause-failed : goal.returns-in_err-ensure_cell-clause-failed
returns-in_err-ensure_cell-clause-failed c =
    let entry = rw c.names_entry.ensures at c.in_err-ensure_cell.ensures.failed in
    refusing c.from_residual-in_err-ensure_cell.result c.from_residual-in_err-ensure_cell.ensures.1 (after c.in_ok-blanks.ensures.passed (here _ entry))

-- the last test of all decides
all_pass : (first second last : Tests) (r : Result (Unit {0}) RecordFault) → Pass first → Pass second → OnOk r (Pass last) → OnOk r (Pass (first ++ (second ++ last)))
all_pass first second last (Ok u) f s l = both f (both s l)
all_pass first second last (Err e) f s l = tt

last_fails : (first second last : Tests) (r : Result (Unit {0}) RecordFault) → Pass first → Pass second → IfErr r (FailBy last) → IfErr r (FailBy (first ++ (second ++ last)))
last_fails first second last (Ok u) f s l = tt
last_fails first second last (Err e) f s l = after f (after s l)

pub returns-clause-passed : goal.returns-clause-passed
returns-clause-passed c =
    let entry = rw c.names_entry.ensures at c.in_ok-ensure_cell.ensures.passed in
    let seats = rw c.names_winner_of_seats.ensures at c.ensure_cell-2.ensures.passed in
    all_pass _ _ _ c.ensure_cell-2.result c.in_ok-blanks.ensures.passed entry seats

pub returns-clause-failed : goal.returns-clause-failed
returns-clause-failed c =
    let entry = rw c.names_entry.ensures at c.in_ok-ensure_cell.ensures.passed in
    let seats = rw c.names_winner_of_seats.ensures at c.ensure_cell-2.ensures.failed in
    last_fails _ _ _ c.ensure_cell-2.result c.in_ok-blanks.ensures.passed entry seats
