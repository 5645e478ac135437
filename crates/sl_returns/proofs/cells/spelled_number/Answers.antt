-- A digit more adds its value.
use Rattle.std.proofs.Common.{sym, ◌∙◌, arith}
use Rattle.sl_returns.proofs.CellLemmas.{reads}
use Rattle.sl_returns.proofs.cells.spelled_number.Goals as goal

pub overflow_mul-number : goal.overflow_mul-number
overflow_mul-number c =
    let next = reads c.args.cell.now c.loop-byte.byte-index (omega arith) c.loop-byte.invariant.digits (sym c.is_ascii_digit.ensures.value ∙ c.if-not-is_ascii_digit.false) (omega arith) in
    omega (arith, next.next, next.small, c.loop-byte.invariant.number)

pub overflow_add-number : goal.overflow_add-number
overflow_add-number c =
    let next = reads c.args.cell.now c.loop-byte.byte-index (omega arith) c.loop-byte.invariant.digits (sym c.is_ascii_digit.ensures.value ∙ c.if-not-is_ascii_digit.false) (omega arith) in
    omega (arith, next.next, next.small, c.loop-byte.invariant.number)

pub loop-byte-preserved : goal.loop-byte-preserved
loop-byte-preserved c =
    let next = reads c.args.cell.now c.loop-byte.byte-index (omega arith) c.loop-byte.invariant.digits (sym c.is_ascii_digit.ensures.value ∙ c.if-not-is_ascii_digit.false) (omega arith) in
    record { digits = next.digits; number = omega (arith, next.next, c.loop-byte.invariant.number) }
