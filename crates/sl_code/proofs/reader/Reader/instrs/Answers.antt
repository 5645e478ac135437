use Rattle.std.proofs.lemmas.Result.{err_from_is_err_and}
use Rattle.sl_code.specs.Faults.{in_count}
use Rattle.sl_code.proofs.Pieces.{list_stops}
use Rattle.sl_code.proofs.reader.Reader.instrs.Goals as goal

pub returns-in_err-count-clause-err : goal.returns-in_err-count-clause-err
returns-in_err-count-clause-err c =
    let p = err_from_is_err_and c.from_residual.result c.from_residual.ensures.1 in
    rw (p.1, p.2) (in_count c.in_err-count.ensures.err)

pub returns-clause-err : goal.returns-clause-err
returns-clause-err c = list_stops _ _ _ _ _ _ c.instr_list.result _ _ _ c.in_ok-count.ensures.ok.0 c.in_ok-count.ensures.ok.1 c.instr_list.ensures.err
