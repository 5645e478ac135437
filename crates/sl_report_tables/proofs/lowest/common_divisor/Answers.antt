use Rattle.std.proofs.Common.{arith}
use Rattle.std.proofs.lemmas.Nat.Gcd.{IsGcd-from_mod, IsGcd-from_zero}
use Rattle.sl_report_tables.proofs.lowest.common_divisor.Goals as goal

pub loop-less-preserved : goal.loop-less-preserved
loop-less-preserved c = λ g h. c.loop-less.invariant g (IsGcd-from_mod c.loop-less.greater c.loop-less.less g h)

pub returns : goal.returns
returns c = c.loop-less.invariant c.loop-less.greater (IsGcd-from_zero c.loop-less.greater c.loop-less.less (omega (arith, c.loop-less-test.false)))
