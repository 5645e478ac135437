use Rattle.std.proofs.Common.{arith}
use Rattle.sl_lex.proofs.Numbers.{number_of_more, number_of_front}
use Rattle.sl_lex.proofs.scan.number_of.Goals as goal

pub returns-then-number-from-clause-above : goal.returns-then-number-from-clause-above
returns-then-number-from-clause-above c = omega (arith, number_of_more c.args.digits.now c.loop-digit.digit-index c.loop-digit-test.true, number_of_front c.args.digits.now)
