use Rattle.std.proofs.Common.{arith}
use Rattle.sl_law_margins.proofs.Digits.{strip}
use Rattle.sl_law_margins.proofs.decimal.shortened.Goals as goal

pub loop-left-preserved : goal.loop-left-preserved
loop-left-preserved c =
    let inv = c.loop-left.invariant in (
      strip c.loop-left.digits c.args.places c.args.units c.loop-left.left c.if-digits-eq0.true c.loop-left-test.true inv.0,
      omega (arith, inv.1),
    )
