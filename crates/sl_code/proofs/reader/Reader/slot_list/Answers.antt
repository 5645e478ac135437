use Rattle.std.proofs.Common.{◌≡◌, [], ◌∷◌, ◌++◌, length, length-append, ap, arith}
use Rattle.std.proofs.lemmas.Result.{err_from_is_err_and}
use Rattle.sl_code.specs.Faults.{IsAny, FailsShape, shape_bytes}
use Rattle.sl_code.proofs.Pieces.{element_stands, element_stops, all_any}
use Rattle.sl_code.proofs.reader.Reader.slot_list.Goals as goal

pub returns-in_err-shape-clause-err : goal.returns-in_err-shape-clause-err
returns-in_err-shape-clause-err c =
    let p = err_from_is_err_and c.from_residual.result c.from_residual.ensures.1 in
    rw (p.1, p.2) (element_stops shape_bytes IsAny FailsShape c.args.count c.args.self.now c.loop-at.self c.loop-at.slots.items _ c.loop-at.invariant.0 (omega arith) (all_any c.loop-at.slots.items) (c.in_err-shape.ensures.err.fails []))

pub loop-at-preserved : goal.loop-at-preserved
loop-at-preserved c =
    let grown : c.push.new.self.items ≡ c.loop-at.slots.items ++ c.in_ok-shape.shape ∷ [] = c.in_ok-push.ensures.items in
    (element_stands shape_bytes _ _ _ _ _ c.in_ok-shape.shape c.loop-at.invariant.0 c.in_ok-shape.ensures.ok grown, omega (arith, simp length-append at (ap length grown)))
