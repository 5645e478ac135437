use Rattle.std.proofs.Common.{◌*◌, refl, arith}
use Rattle.std.specs.Int.{div_ceil}
use Rattle.sl_law_margins.proofs.Digits.{wider, closer, roundest_is}
use Rattle.sl_law_margins.proofs.divisors.roundest.Goals as goal

pub loop-step-init : goal.loop-step-init
loop-step-init c = ((0, refl), (c.args.low, omega arith, omega arith))

pub loop-step-smaller : goal.loop-step-smaller
loop-step-smaller c =
    let inv = c.loop-step.invariant in
    closer c.args.low c.args.high c.loop-step.step inv.0.0 (div_ceil c.args.low (c.loop-step.step * 10)) c.multiple_from.result c.requires.low inv.0.1
    c.multiple_from.ensures.multiple c.multiple_from.ensures.from c.loop-step-test.true

pub loop-step-preserved : goal.loop-step-preserved
loop-step-preserved c =
    let inv = c.loop-step.invariant in
    wider c.args.low c.args.high c.loop-step.step inv.0.0 (div_ceil c.args.low (c.loop-step.step * 10)) c.multiple_from.result inv.0.1
    c.multiple_from.ensures.multiple c.multiple_from.ensures.from c.loop-step-test.true

pub returns : goal.returns
returns c =
    let inv = c.loop-step.invariant in
    roundest_is c.args.low c.args.high c.loop-step.step inv.0.0 inv.1.0 (div_ceil c.args.low c.loop-step.step) c.multiple_from-2.result
    (div_ceil c.args.low (c.loop-step.step * 10)) c.multiple_from.result inv.0.1 inv.1.1 inv.1.2
    c.multiple_from-2.ensures.multiple c.multiple_from-2.ensures.from c.multiple_from-2.ensures.next
    c.multiple_from.ensures.multiple c.multiple_from.ensures.next c.loop-step-test.false
