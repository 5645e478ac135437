use Rattle.std.proofs.Common.{◌+◌, ◌<◌, arith}
use Rattle.sl_law_margins.proofs.Shortest.{ten_pos}
use Rattle.sl_law_margins.proofs.Digits.{next_power}
use Rattle.sl_law_margins.proofs.divisors.power_from.Goals as goal

pub loop-power-preserved : goal.loop-power-preserved
loop-power-preserved c = let inv = c.loop-power.invariant in (inv.0 + 1, next_power inv.0 c.loop-power.power inv.1)

pub loop-power-smaller : goal.loop-power-smaller
loop-power-smaller c =
    let inv = c.loop-power.invariant in
    let one = ten_pos inv.0 in
    let pos : 0 < c.loop-power.power = omega (arith, one, inv.1) in
    omega (arith, pos, c.loop-power-test.true)
