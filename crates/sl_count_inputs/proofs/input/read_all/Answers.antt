use Rattle.std.proofs.Common.{◌++◌, take, length-append, arith}
use Rattle.std.proofs.lemmas.List.{length-take, length-take-le}
use Rattle.std.proofs.KnownBytes.{Consumes-trans}
use Rattle.sl_count_inputs.proofs.input.read_all.Goals as goal

pub returns-then-is_err-clause-limited : goal.returns-then-is_err-clause-limited
returns-then-is_err-clause-limited g c =
    let before = c.reading.bytes.items in
    let piece = take c.in-Ok.n c.fetch.new.buf in (
      before ++ piece,
      omega (
        arith,
        length-append before piece,
        length-take-le c.in-Ok.n c.fetch.new.buf c.in-Ok.ensures.bound,
        c.fetch.auto.buf,
        length-take c.min-room.result c.reading.chunk,
        c.in-Ok.ensures.bound,
        c.min-room.ensures,
        c.len-in-reading.ensures,
        c.reading-test.true,
        c.reading.bytes.ok,
        c.reading.invariant.within,
      ),
      Consumes-trans _ _ _ before piece c.reading.invariant.given c.in-Ok.ensures.bytes.0,
    )
