use Rattle.std.proofs.lemmas.Result.{err_from_is_err_and}
use Rattle.sl_code.proofs.Names.{name_stops, slot_stops}
use Rattle.sl_code.proofs.reader.Reader.stage.Goals as goal

pub returns-in_err-name-clause-err : goal.returns-in_err-name-clause-err
returns-in_err-name-clause-err c =
    let p = err_from_is_err_and c.from_residual-in_err-name.result c.from_residual-in_err-name.ensures.1 in
    rw (p.1, p.2) (name_stops _ _ _ _ c.in_ok-length.ensures.ok.0 c.in_ok-length.ensures.ok.1 c.in_err-name.ensures.err)

pub returns-in_err-slot-clause-err : goal.returns-in_err-slot-clause-err
returns-in_err-slot-clause-err c =
    let p = err_from_is_err_and c.from_residual-in_err-slot.result c.from_residual-in_err-slot.ensures.1 in
    rw (p.1, p.2) (slot_stops _ _ _ _ _ _ c.in_ok-length.ensures.ok.0 c.in_ok-length.ensures.ok.1 c.in_ok-name.ensures.ok c.in_err-slot.ensures.err)
