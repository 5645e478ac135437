use Rattle.std.proofs.Common.{arith}
use Rattle.std.proofs.lemmas.Result.{err_from_is_err_and}
use Rattle.sl_code.proofs.Pieces.{count_cut, count_above}
use Rattle.sl_code.proofs.reader.Reader.long_count.Goals as goal

pub returns-in_err-count-clause-err : goal.returns-in_err-count-clause-err
returns-in_err-count-clause-err c =
    let p = err_from_is_err_and c.from_residual.result c.from_residual.ensures.1 in
    rw (p.1, p.2) (count_cut _ _ _ c.in_err-count.ensures.err)

pub returns-then-count-most-clause-err : goal.returns-then-count-most-clause-err
returns-then-count-most-clause-err c =
    count_above _ _ _ _ _ c.in_ok-count.ensures.ok (omega arith) (omega arith) c.stop-wrong.ensures
