use Rattle.sl_ratio.proofs.Rounding.{every_divisor_between}
use Rattle.sl_ratio.proofs.laws.every_divisor_between.Goals as goal

pub returns : goal.returns
returns c = every_divisor_between
