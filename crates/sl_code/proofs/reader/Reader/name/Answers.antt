use Rattle.std.proofs.Common.{◌<◌, arith, rules}
use Rattle.std.proofs.lemmas.Result.{err_from_is_err_and}
use Rattle.sl_code.proofs.Names.{name_grows, name_ends, name_positive, name_byte_stops}
use Rattle.sl_code.proofs.reader.Reader.name.Goals as goal

pub returns-in_err-name_byte-clause-err : goal.returns-in_err-name_byte-clause-err
returns-in_err-name_byte-clause-err c =
    let p = err_from_is_err_and c.from_residual-in_err-name_byte.result c.from_residual-in_err-name_byte.ensures.1 in
    rw (p.1, p.2) (name_byte_stops _ _ _ _ _ _ c.loop-at.invariant c.rest-here.ensures (omega arith) c.in_err-name_byte.ensures.err)

pub loop-at-preserved : goal.loop-at-preserved
loop-at-preserved c = name_grows _ _ _ _ _ c.loop-at.invariant c.in_ok-name_byte.ensures.ok.0 c.in_ok-name_byte.ensures.ok.1

pub returns-clause-ok : goal.returns-clause-ok
returns-clause-ok c =
    let positive : 0 < c.args.length = name_positive c.args.length c.requires in
    name_ends _ _ _ _ _ _ c.loop-at.invariant (omega (arith, positive, c.loop-at.auto._at-end)) (search rules) c.rest-here.ensures c.requires
