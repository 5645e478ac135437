-- The test that fails is the first.
use Rattle.std.proofs.Common.{arith}
use Rattle.csv.specs.Records.{fields_of}
use Rattle.sl_returns.proofs.Blanks.{one_more, one_fails}
use Rattle.sl_returns.proofs.TestLemmas.{refusing}
use Rattle.sl_returns.proofs.cells.blanks.Goals as goal

pub returns-in_err-empty-clause-failed : goal.returns-in_err-empty-clause-failed
returns-in_err-empty-clause-failed c =
    let failed = rw (c.content.ensures, c.cell.ensures) at c.in_err-empty.ensures.failed in
    refusing c.from_residual.result c.from_residual.ensures.1 (one_fails c.args.kind (fields_of c.args.fields.now) c.loop-column.column _ (omega arith) c.loop-column.invariant failed)

pub loop-column-preserved : goal.loop-column-preserved
loop-column-preserved c =
    let passed = rw (c.content.ensures, c.cell.ensures) at c.in_ok-empty.ensures.passed in
    one_more c.args.kind (fields_of c.args.fields.now) c.loop-column.column (omega arith) c.loop-column.invariant passed
